-- The bits of a number as a set: what the operations on bits hold, and that a number of 64 bits is what it holds.
use Rattle.std.proofs.Common.{◌≡◌, ℕ, zero, suc, ◌+◌, ◌-◌, ◌/◌, ◌%◌, ◌^◌, ◌<◌, ◌≤◌, true, false, not, ◌&&◌, ◌||◌, eqb, ltb, sym, refl, ap, ◌∙◌, ap₂, ⊎_elim, lt_of_lt_of_le, mod-lt, zero-lt-suc, pow-suc, div-one, arith, pow_pos, pow_mono, shr-shr}
use native.Mathlib.Nat.{zero-div, div-eq_of_lt}
use lib.Arith.{lt-one}
use lib.Bits.{bit_and, bit_or, and_shr, or_shr, and_mod, or_mod}
use lib.Count.{count_trailing_zeros, under}
use lib.Dec.{eqb-zero-suc, eqb-suc-zero, eqb-suc-suc, leb-zero, leb-suc-zero, leb-suc-suc}
use Rattle.std.specs.Bool.{Decides}
use Rattle.std.proofs.lemmas.Nat.{and_le_l}
use Rattle.std.proofs.lemmas.Bool.{cases_lt, lt-ltb, and_left, eq-eqb, eqb-true}
use Rattle.std.proofs.lemmas.Bool.Decides.{nat_tests}
use Rattle.std.proofs.Math.Bool.{and-true}
use Rattle.sets.specs.Sets.{holds}

-- ---- the lowest bit, and the others

pub holds-zero : (k : ℕ) → holds 0 k ≡ false
unfolding holds
holds-zero k = ap (λ q. eqb (q % 2) 1) (zero-div (2 ^ k))

pub holds_first : (bits : ℕ) → holds bits 0 ≡ eqb (bits % 2) 1
unfolding holds
holds_first bits = ap (λ q. eqb (q % 2) 1) (div-one bits)

pub holds-next : (bits k : ℕ) → holds bits (suc k) ≡ holds (bits / 2) k
unfolding holds
holds-next bits k = ap (λ q. eqb (q % 2) 1) (ap (λ e. bits / 2 ^ e) one_more ∙ sym (shr-shr bits 1 k))
  where
    one_more : suc k ≡ 1 + k
    one_more = omega arith

pub half_below : (w bits : ℕ) → bits < 2 ^ suc w → bits / 2 < 2 ^ w
half_below w bits h = omega (arith, pow-suc 2 w)

-- ---- numbers of w bits

past : (w bits k : ℕ) → bits < 2 ^ w → w ≤ k → holds bits k ≡ false
unfolding holds
past w bits k h le = ap (λ q. eqb (q % 2) 1) (div-eq_of_lt (lt_of_lt_of_le h (pow_mono le)))

same_lowest : (a b : ℕ) → eqb (a % 2) 1 ≡ eqb (b % 2) 1 → a % 2 ≡ b % 2
same_lowest a b e = go (a % 2) (b % 2) (mod-lt a (zero-lt-suc 1)) (mod-lt b (zero-lt-suc 1)) e
  where
    go : (x y : ℕ) → x < 2 → y < 2 → eqb x 1 ≡ eqb y 1 → x ≡ y
    go x y hx hy t = grind (arith, nat_tests)

same : (w a b : ℕ) → a < 2 ^ w → b < 2 ^ w → ((k : ℕ) → k < w → holds a k ≡ holds b k) → a ≡ b
same zero a b ha hb h = lt-one ha ∙ sym (lt-one hb)
same (suc w) a b ha hb h =
    let low : a % 2 ≡ b % 2 = same_lowest a b (sym (holds_first a) ∙ h 0 (zero-lt-suc w) ∙ holds_first b) in
    let high : a / 2 ≡ b / 2 = same w (a / 2) (b / 2) (half_below w a ha) (half_below w b hb) (λ k l. sym (holds-next a k) ∙ h (suc k) (omega arith) ∙ holds-next b k) in
    omega arith

pub holds_past : (bits k : ℕ) → bits < 2 ^ 64 → 64 ≤ k → holds bits k ≡ false
holds_past bits k h le = past 64 bits k h le

-- a number of 64 bits is what it holds
pub same_set : (a b : ℕ) → a < 2 ^ 64 → b < 2 ^ 64 → ((k : ℕ) → k < 64 → holds a k ≡ holds b k) → a ≡ b
same_set a b ha hb h = same 64 a b ha hb h

-- ---- the operations on two numbers, bit by bit

lowest_and : (x y : ℕ) → x < 2 → y < 2 → eqb (bit_and x y) 1 ≡ (eqb x 1 && eqb y 1)
lowest_and zero y hx hy = refl
lowest_and (suc zero) zero hx hy = refl
lowest_and (suc zero) (suc zero) hx hy = refl
lowest_and (suc zero) (suc (suc y)) hx hy = absurd (omega arith)
lowest_and (suc (suc x)) y hx hy = absurd (omega arith)

lowest_or : (x y : ℕ) → x < 2 → y < 2 → eqb (bit_or x y) 1 ≡ (eqb x 1 || eqb y 1)
lowest_or zero y hx hy = refl
lowest_or (suc zero) zero hx hy = refl
lowest_or (suc zero) (suc zero) hx hy = refl
lowest_or (suc zero) (suc (suc y)) hx hy = absurd (omega arith)
lowest_or (suc (suc x)) y hx hy = absurd (omega arith)

bit_below : (bits k : ℕ) → bits / 2 ^ k % 2 < 2
bit_below bits k = mod-lt (bits / 2 ^ k) (zero-lt-suc 1)

pub holds_and : (a b k : ℕ) → holds (bit_and a b) k ≡ (holds a k && holds b k)
unfolding holds
holds_and a b k =
    ap (λ q. eqb (q % 2) 1) (and_shr a b k) ∙ ap (λ q. eqb q 1) (and_mod (a / 2 ^ k) (b / 2 ^ k) 1)
    ∙ lowest_and (a / 2 ^ k % 2) (b / 2 ^ k % 2) (bit_below a k) (bit_below b k)

pub holds_or : (a b k : ℕ) → holds (bit_or a b) k ≡ (holds a k || holds b k)
unfolding holds
holds_or a b k =
    ap (λ q. eqb (q % 2) 1) (or_shr a b k) ∙ ap (λ q. eqb q 1) (or_mod (a / 2 ^ k) (b / 2 ^ k) 1)
    ∙ lowest_or (a / 2 ^ k % 2) (b / 2 ^ k % 2) (bit_below a k) (bit_below b k)

-- ---- one bit, the bits below one, and the bits that a number lacks

pub holds_one_bit : (n k : ℕ) → holds (2 ^ n) k ≡ eqb k n
holds_one_bit zero zero = holds_first 1
holds_one_bit zero (suc k) = holds-next 1 k ∙ holds-zero k ∙ sym (eqb-suc-zero k)
holds_one_bit (suc n) zero =
    let even : 2 ^ suc n % 2 ≡ 0 = omega (arith, pow-suc 2 n) in
    holds_first (2 ^ suc n) ∙ ap (λ q. eqb q 1) even ∙ sym (eqb-zero-suc n)
holds_one_bit (suc n) (suc k) =
    let half : 2 ^ suc n / 2 ≡ 2 ^ n = omega (arith, pow-suc 2 n) in
    holds-next (2 ^ suc n) k ∙ ap (λ q. holds q k) half ∙ holds_one_bit n k ∙ sym (eqb-suc-suc k n)

pub holds_not : (w a k : ℕ) → a < 2 ^ w → holds (2 ^ w - 1 - a) k ≡ (ltb k w && not (holds a k))
holds_not zero a k h = let none : 2 ^ 0 - 1 - a ≡ 0 = omega arith in ap (λ q. holds q k) none ∙ holds-zero k ∙ sym (ap (λ t. t && not (holds a k)) (leb-suc-zero k))
holds_not (suc w) a zero h =
    let other : (2 ^ suc w - 1 - a) % 2 ≡ 1 - a % 2 = omega (arith, pow-suc 2 w) in
    holds_first (2 ^ suc w - 1 - a) ∙ ap (λ q. eqb q 1) other ∙ flip (a % 2) (mod-lt a (zero-lt-suc 1))
    ∙ sym (ap₂ (λ s t. s && not t) (leb-suc-suc 0 w ∙ leb-zero w) (holds_first a))
  where
    flip : (x : ℕ) → x < 2 → eqb (1 - x) 1 ≡ not (eqb x 1)
    flip zero l = refl
    flip (suc zero) l = refl
    flip (suc (suc x)) l = absurd (omega arith)
holds_not (suc w) a (suc k) h =
    let half : (2 ^ suc w - 1 - a) / 2 ≡ 2 ^ w - 1 - a / 2 = omega (arith, pow-suc 2 w) in
    holds-next (2 ^ suc w - 1 - a) k ∙ ap (λ q. holds q k) half ∙ holds_not w (a / 2) k (half_below w a h)
    ∙ ap₂ (λ s t. s && not t) (sym (leb-suc-suc (suc k) w)) (sym (holds-next a k))

pub holds-below : (n k : ℕ) → holds (2 ^ n - 1) k ≡ ltb k n
holds-below n k =
    let less : 2 ^ n - 1 ≡ 2 ^ n - 1 - 0 = omega arith in
    ap (λ q. holds q k) less ∙ holds_not n 0 k (pow_pos n) ∙ ap (λ t. ltb k n && not t) (holds-zero k) ∙ and-true (ltb k n)

-- `a & !b`, at 64 bits
pub holds_and_not : (a b k : ℕ) → a < 2 ^ 64 → b < 2 ^ 64 → holds (bit_and a (2 ^ 64 - 1 - b)) k ≡ (holds a k && not (holds b k))
holds_and_not a b k ha hb = holds_and a (2 ^ 64 - 1 - b) k ∙ ap (λ t. holds a k && t) (holds_not 64 b k hb) ∙ ⊎_elim inside outside (cases_lt k 64)
  where
    inside : k < 64 → (holds a k && (ltb k 64 && not (holds b k))) ≡ (holds a k && not (holds b k))
    inside l = ap (λ t. holds a k && (t && not (holds b k))) (lt-ltb k 64 l)

    outside : 64 ≤ k → (holds a k && (ltb k 64 && not (holds b k))) ≡ (holds a k && not (holds b k))
    outside le = and_left (holds a k) (ltb k 64 && not (holds b k)) (holds_past a k ha le) ∙ sym (and_left (holds a k) (not (holds b k)) (holds_past a k ha le))

-- each number that `a` holds is held by `b`
pub holds_within : (a b : ℕ) → a < 2 ^ 64 → b < 2 ^ 64 → Decides (eqb (bit_and a (2 ^ 64 - 1 - b)) 0) ((k : ℕ) → holds a k ≡ true → holds b k ≡ true)
holds_within a b ha hb = (
  λ none k here.
      let left : (holds a k && not (holds b k)) ≡ false = sym (holds_and_not a b k ha hb) ∙ ap (λ bits. holds bits k) (eqb-true (bit_and a (2 ^ 64 - 1 - b)) 0 none) ∙ holds-zero k in
      grind (arith, nat_tests),
  λ all. eq-eqb (bit_and a (2 ^ 64 - 1 - b)) 0 (same_set (bit_and a (2 ^ 64 - 1 - b)) 0 (omega (arith, and_le_l a (2 ^ 64 - 1 - b))) (pow_pos 64) (λ k l.
      let each = all k in
      let left : (holds a k && not (holds b k)) ≡ false = grind (arith, nat_tests) in
      holds_and_not a b k ha hb ∙ left ∙ sym (holds-zero k))),
)

-- ---- the lowest bit that is set

below_lowest : (w bits k : ℕ) → k < count_trailing_zeros w bits → holds bits k ≡ false
unfolding count_trailing_zeros
below_lowest zero bits k h = absurd (omega arith)
below_lowest (suc w) bits k h = go (below_lowest w (bits / 2)) (bits % 2) refl k h
  where
    go : ((j : ℕ) → j < count_trailing_zeros w (bits / 2) → holds (bits / 2) j ≡ false) → (d : ℕ) → bits % 2 ≡ d → (j : ℕ) → j < under d (count_trailing_zeros w (bits / 2)) → holds bits j ≡ false
    go rest zero e zero l = holds_first bits ∙ ap (λ q. eqb q 1) e
    go rest zero e (suc j) l = holds-next bits j ∙ rest j (omega arith)
    go rest (suc d) e j l = absurd (omega arith)

lowest_set : (w bits : ℕ) → count_trailing_zeros w bits < w → holds bits (count_trailing_zeros w bits) ≡ true
unfolding count_trailing_zeros
lowest_set zero bits h = absurd (omega arith)
lowest_set (suc w) bits h = go (lowest_set w (bits / 2)) (bits % 2) refl h
  where
    go : (count_trailing_zeros w (bits / 2) < w → holds (bits / 2) (count_trailing_zeros w (bits / 2)) ≡ true) → (d : ℕ) → bits % 2 ≡ d → under d (count_trailing_zeros w (bits / 2)) < suc w → holds bits (under d (count_trailing_zeros w (bits / 2))) ≡ true
    go rest zero e l = holds-next bits (count_trailing_zeros w (bits / 2)) ∙ rest (omega arith)
    go rest (suc d) e l = let one : bits % 2 ≡ 1 = omega (arith, mod-lt bits {m = 2} (zero-lt-suc 1)) in holds_first bits ∙ ap (λ q. eqb q 1) one

-- the zeros below the lowest bit of a number of 64 bits count to the least number that it holds
pub trailing_least : (bits : ℕ) → bits < 2 ^ 64 → (bits ≡ 0 → ⊥) → (count_trailing_zeros 64 bits < 64) × (holds bits (count_trailing_zeros 64 bits) ≡ true) × ((k : ℕ) → k < count_trailing_zeros 64 bits → holds bits k ≡ false)
trailing_least bits h some = let l : count_trailing_zeros 64 bits < 64 = ⊎_elim (λ x. x) (λ le. absurd (some (empty le))) (cases_lt (count_trailing_zeros 64 bits) 64) in (l, lowest_set 64 bits l, below_lowest 64 bits)
  where
    empty : 64 ≤ count_trailing_zeros 64 bits → bits ≡ 0
    empty le = same_set bits 0 h (pow_pos 64) (λ k l. below_lowest 64 bits k (omega arith) ∙ sym (holds-zero k))
