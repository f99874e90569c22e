-- What the operations on bits hold.
use Rattle.std.proofs.lemmas.Nat.{one_shl, ones-le}
use Rattle.sets.proofs.Holds.{holds-zero, holds_past, holds_or, holds_and, holds_and_not, holds_within, holds_one_bit, holds-below, trailing_least}
use Rattle.sets.proofs.Members.{length-members}

pub ruleset bit_rules = (one_shl, holds-zero, holds_past, holds_or, holds_and, holds_and_not, holds_within, holds_one_bit, holds-below, trailing_least, length-members, ones-le)
