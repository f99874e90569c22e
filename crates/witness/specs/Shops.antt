-- What a small shop means: its count of mills, and the pairs that its table has as able, 8 entries to a program.
use Rattle.std.specs.Prelude.{ℕ, ◌+◌, ◌*◌, Bool, false, ◌&&◌, List, nat_lt, slice_index_or}
use Rattle.capability.specs.Meaning.{Meaning}

abbrev pub meant_by : ℕ → List Bool → Meaning
meant_by mills pairs = record { mills = mills; able = λ p m. nat_lt p 256 && (nat_lt m mills && slice_index_or pairs (p * 8 + m) false) }
