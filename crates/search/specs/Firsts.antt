-- The first of some numbers whose value no other's beats: what the two searches choose among the mills that they reached.
use Rattle.std.specs.Prelude.{◌≡◌, ℕ, Bool, List, length, nat_lt, slice_index_or}
use Rattle.std.specs.List.{IsFirstBest}

-- a call with two numbers tells what a test says of them
abbrev pub Computes : (ℕ → ℕ → Bool → Type 0) → (ℕ → ℕ → Bool) → Type 0
Computes post test = (x y : ℕ) (told : Bool) → post x y told → told ≡ test x y

pub record First (beats : ℕ → ℕ → Bool) (value : ℕ → ℕ) (numbers : List ℕ) (number : ℕ) : Type 0 where
  pub place : ℕ
  pub best : IsFirstBest (λ a b. beats (value a) (value b)) numbers (length numbers) place
  pub is : slice_index_or numbers place 0 ≡ number

-- the first of the numbers that have the least value, and of those that have the greatest
abbrev pub Lightest : (ℕ → ℕ) → List ℕ → ℕ → Type 0
Lightest = First nat_lt

abbrev pub Greatest : (ℕ → ℕ) → List ℕ → ℕ → Type 0
Greatest = First (λ a b. nat_lt b a)
