-- Sums, counts and greatest values over the numbers below a bound.
use Rattle.std.specs.Prelude.{ℕ, zero, suc, ◌+◌, max, Bool, cond}

unfoldable pub sum_to : ℕ → (ℕ → ℕ) → ℕ
sum_to zero f = 0
sum_to (suc n) f = sum_to n f + f n

-- how many numbers below the bound pass a test
abbrev pub count_to : ℕ → (ℕ → Bool) → ℕ
count_to n test = sum_to n (λ k. cond (test k) 1 0)

-- the greatest value; 0 where there is none
unfoldable pub greatest_to : ℕ → (ℕ → ℕ) → ℕ
greatest_to zero f = 0
greatest_to (suc n) f = max (greatest_to n f) (f n)
