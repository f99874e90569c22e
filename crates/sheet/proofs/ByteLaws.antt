-- The bytes that digits write, place by place: byte i stands at the digits 2 i and 2 i + 1.
use Rattle.std.proofs.Common.{◌≡◌, ℕ, zero, suc, ◌+◌, ◌*◌, ◌<◌, List, [], ◌∷◌, length, get_or, take, drop, sym, refl, ap, ◌∙◌, mul-suc, arith}
use Rattle.sheet.specs.Digits.{byte_of, bytes_of}

-- twice a number, by steps that lists follow
abbrev twice : ℕ → ℕ
twice zero = zero
twice (suc n) = suc (suc (twice n))

twice_is : (n : ℕ) → twice n ≡ 2 * n
twice_is zero = refl
twice_is (suc n) = let h = twice_is n in omega (arith, mul-suc 2 n)

get_or_twice : (ds : List ℕ) (i : ℕ) → suc (twice i) < length ds → get_or (bytes_of ds) i 0 ≡ byte_of (get_or ds (twice i) 0) (get_or ds (suc (twice i)) 0)
get_or_twice [] i h = absurd (omega arith)
get_or_twice (a ∷ []) i h = absurd (omega arith)
get_or_twice (a ∷ b ∷ ds) zero h = refl
get_or_twice (a ∷ b ∷ ds) (suc i) h = get_or_twice ds i (omega arith)

pub get_or_bytes : (ds : List ℕ) (i : ℕ) → 2 * i + 1 < length ds → get_or (bytes_of ds) i 0 ≡ byte_of (get_or ds (2 * i) 0) (get_or ds (2 * i + 1) 0)
get_or_bytes ds i h =
    let e = twice_is i in
    let s : suc (twice i) ≡ 2 * i + 1 = omega arith in
    get_or_twice ds i (omega arith) ∙ (λ j. byte_of (get_or ds (e j) 0) (get_or ds (s j) 0))

drop_twice : (k : ℕ) (ds : List ℕ) → bytes_of (drop (twice k) ds) ≡ drop k (bytes_of ds)
drop_twice zero ds = refl
drop_twice (suc k) [] = refl
drop_twice (suc k) (a ∷ []) = refl
drop_twice (suc k) (a ∷ b ∷ ds) = drop_twice k ds

pub bytes_drop : (k n : ℕ) (ds : List ℕ) → n ≡ 2 * k → bytes_of (drop n ds) ≡ drop k (bytes_of ds)
bytes_drop k n ds e = ap (λ i. bytes_of (drop i ds)) (e ∙ sym (twice_is k)) ∙ drop_twice k ds

take_twice : (k : ℕ) (ds : List ℕ) → bytes_of (take (twice k) ds) ≡ take k (bytes_of ds)
take_twice zero ds = refl
take_twice (suc k) [] = refl
take_twice (suc k) (a ∷ []) = refl
take_twice (suc k) (a ∷ b ∷ ds) = ap (λ bs. byte_of a b ∷ bs) (take_twice k ds)

pub bytes_take : (k n : ℕ) (ds : List ℕ) → n ≡ 2 * k → bytes_of (take n ds) ≡ take k (bytes_of ds)
bytes_take k n ds e = ap (λ i. bytes_of (take i ds)) (e ∙ sym (twice_is k)) ∙ take_twice k ds
