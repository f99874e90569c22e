-- Sets of the numbers 0 to 63, written as the bits of one number.
use Rattle.std.specs.Prelude.{◌≡◌, ℕ, suc, ◌/◌, ◌%◌, ◌^◌, ◌<◌, ◌≤◌, Bool, false, ◌||◌, List, [], ◌∷◌, filter, Option, MatchOption, ◌==◌}
use Rattle.std.specs.List.{range_with_len}
use Rattle.sets.specs.declared.number_set.Members.{Members}
use Rattle.sets.specs.declared.number_set.NumberSet.{NumberSet}

-- whether `number` is in the set that `bits` writes: that bit is 1
unfoldable pub holds : ℕ → ℕ → Bool
holds bits number = (bits / 2 ^ number % 2) == 1

-- the numbers below `bound` that pass a test, rising; it stays shut, since at 64 what it computes to doubles with each number
unfoldable pub numbers : (ℕ → Bool) → ℕ → List ℕ
numbers test bound = filter test (range_with_len 0 bound)

-- whether a set has a number
abbrev pub has : NumberSet → ℕ → Bool
has set number = holds set.bits number

-- the members of a set, rising
abbrev pub members : NumberSet → List ℕ
members set = numbers (has set) 64

-- whether a number stands in a list
abbrev pub member : ℕ → List ℕ → Bool
member k [] = false
member k (x ∷ xs) = k == x || member k xs

-- each element is at least `floor`, below `bound`, and above the one before
abbrev pub Rises : ℕ → ℕ → List ℕ → Type 0
Rises floor bound [] = Unit {0}
Rises floor bound (x ∷ xs) = (floor ≤ x) × (x < bound) × Rises (suc x) bound xs

-- what an iterator over members has still to give
abbrev pub remaining : Members → List ℕ
remaining iterator = members iterator.rest

-- one call of `next`: nothing is left, and the iterator stays as it is; or it gives the first of what is left
abbrev pub Step : Members → Option ℕ → Members → Type 0
Step before result after = MatchOption result ((remaining before ≡ []) × (after ≡ before)) (λ number. remaining before ≡ number ∷ remaining after)
