-- Laws of the sums, counts and greatest values over the numbers below a bound.
use Rattle.std.proofs.Common.{◌≡◌, ℕ, zero, suc, ◌+◌, ◌*◌, ◌<◌, ◌≤◌, Bool, cond, eqb, sym, refl, ap, ⊎_elim, mul-zero, mul-add, arith}
use Rattle.std.proofs.lemmas.Bool.{cases_eq, cases_lt, cond-true, cond-false, cond_both, eq-eqb, ne_eqb}
use Rattle.semimatching.specs.Sums.{sum_to, count_to, greatest_to}

pub sum_same : (n : ℕ) (f g : ℕ → ℕ) → ((k : ℕ) → k < n → f k ≡ g k) → sum_to n f ≡ sum_to n g
unfolding sum_to
sum_same zero f g same = refl
sum_same (suc n) f g same = omega (arith, sum_same n f g (λ k h. same k (omega arith)), same n (omega arith))

pub sum_le : (n : ℕ) (f g : ℕ → ℕ) → ((k : ℕ) → k < n → f k ≤ g k) → sum_to n f ≤ sum_to n g
unfolding sum_to
sum_le zero f g le = omega arith
sum_le (suc n) f g le = omega (arith, sum_le n f g (λ k h. le k (omega arith)), le n (omega arith))

pub sum_add : (n : ℕ) (f g : ℕ → ℕ) → sum_to n (λ k. f k + g k) ≡ sum_to n f + sum_to n g
unfolding sum_to
sum_add zero f g = refl
sum_add (suc n) f g = omega (arith, sum_add n f g)

pub sum-zero : (n : ℕ) → sum_to n (λ k. 0) ≡ 0
unfolding sum_to
sum-zero zero = refl
sum-zero (suc n) = omega (arith, sum-zero n)

pub sum_scale : (n c : ℕ) (f : ℕ → ℕ) → sum_to n (λ k. c * f k) ≡ c * sum_to n f
unfolding sum_to
sum_scale zero c f = sym (mul-zero c)
sum_scale (suc n) c f = omega (arith, sum_scale n c f, mul-add c (sum_to n f) (f n))

pub sum-swap : (n m : ℕ) (f : ℕ → ℕ → ℕ) → sum_to n (λ i. sum_to m (λ j. f i j)) ≡ sum_to m (λ j. sum_to n (λ i. f i j))
unfolding sum_to
sum-swap zero m f = sym (sum-zero m)
sum-swap (suc n) m f = omega (arith, sum-swap n m f, sum_add m (λ j. sum_to n (λ i. f i j)) (λ j. f n j))

-- where g is f but at i
pub sum_change : (n : ℕ) (f g : ℕ → ℕ) (i : ℕ) → i < n → ((k : ℕ) → k < n → (k ≡ i → ⊥) → g k ≡ f k) → sum_to n g + f i ≡ sum_to n f + g i
unfolding sum_to
sum_change zero f g i h same = absurd (omega arith)
sum_change (suc n) f g i h same =
    ⊎_elim
    (λ (e : i ≡ n). omega (arith, sum_same n f g (λ k l. sym (same k (omega arith) (omega arith))), ap f e, ap g e))
    (λ (ne : i ≡ n → ⊥). omega (arith, sum_change n f g i (omega arith) (λ k l d. same k (omega arith) d), same n (omega arith) (λ e. ne (sym e))))
    (cases_eq i n)

pub sum_one : (n i x : ℕ) → i < n → sum_to n (λ k. cond (eqb k i) x 0) ≡ x
sum_one n i x h =
    omega (
      arith,
      sum-zero n,
      cond-true (eqb i i) x 0 (eq-eqb i i refl),
      sum_change n (λ k. 0) (λ k. cond (eqb k i) x 0) i h (λ k l ne. cond-false (eqb k i) x 0 (ne_eqb k i ne)),
    )

pub sum_one_from : (n i x : ℕ) → i < n → sum_to n (λ k. cond (eqb i k) x 0) ≡ x
sum_one_from n i x h =
    omega (
      arith,
      sum-zero n,
      cond-true (eqb i i) x 0 (eq-eqb i i refl),
      sum_change n (λ k. 0) (λ k. cond (eqb i k) x 0) i h (λ k l ne. cond-false (eqb i k) x 0 (ne_eqb i k (λ e. ne (sym e)))),
    )

pub sum_term_le : (n : ℕ) (f : ℕ → ℕ) (i : ℕ) → i < n → f i ≤ sum_to n f
unfolding sum_to
sum_term_le zero f i h = absurd (omega arith)
sum_term_le (suc n) f i h =
    ⊎_elim
    (λ (e : i ≡ n). omega (arith, ap f e))
    (λ (ne : i ≡ n → ⊥). omega (arith, sum_term_le n f i (omega arith)))
    (cases_eq i n)

pub count_le : (n : ℕ) (t : ℕ → Bool) → count_to n t ≤ n
unfolding sum_to
count_le zero t = omega arith
count_le (suc n) t = omega (arith, count_le n t, cond_both (t n) 1 0 (λ x. x ≤ 1) (λ e. omega arith) (λ e. omega arith))

pub greatest_above : (n : ℕ) (f : ℕ → ℕ) (i : ℕ) → i < n → f i ≤ greatest_to n f
unfolding greatest_to
greatest_above zero f i h = absurd (omega arith)
greatest_above (suc n) f i h =
    ⊎_elim
    (λ (e : i ≡ n). omega (arith, ap f e))
    (λ (ne : i ≡ n → ⊥). omega (arith, greatest_above n f i (omega arith)))
    (cases_eq i n)

pub greatest_least : (n : ℕ) (f : ℕ → ℕ) (c : ℕ) → ((k : ℕ) → k < n → f k ≤ c) → greatest_to n f ≤ c
unfolding greatest_to
greatest_least zero f c le = omega arith
greatest_least (suc n) f c le = omega (arith, greatest_least n f c (λ k h. le k (omega arith)), le n (omega arith))

pub greatest_at : (n : ℕ) (f : ℕ → ℕ) → 0 < n → (i : ℕ) × (i < n) × (f i ≡ greatest_to n f)
unfolding greatest_to
greatest_at zero f h = absurd (omega arith)
greatest_at (suc zero) f h = (0, omega arith, omega arith)
greatest_at (suc (suc n)) f h =
    let before = greatest_at (suc n) f (omega arith) in
    ⊎_elim
    (λ (below : f (suc n) < greatest_to (suc n) f). (before.0, omega arith, omega arith))
    (λ (above : greatest_to (suc n) f ≤ f (suc n)). (suc n, omega arith, omega arith))
    (cases_lt (f (suc n)) (greatest_to (suc n) f))
