-- What a count of mills and rows of mills mean: in the row of each program, the mills that are able for it.
use Rattle.std.specs.Prelude.{ℕ, List, slice_index_or}
use Rattle.sets.specs.Sets.{has}
use Rattle.sets.specs.declared.number_set.NumberSet.{NumberSet}
use Rattle.capability.specs.Meaning.{Meaning}

-- the set without members
abbrev pub none : NumberSet
none = record { bits = 0 }

abbrev pub meaning_in : ℕ → List NumberSet → Meaning
meaning_in mills rows = record { mills = mills; able = λ program mill. has (slice_index_or rows program none) mill }
