-- A shift and a mask read the bit that `holds` reads; from 64 on none is set.
use Rattle.std.proofs.Common.{◌/◌, ◌^◌, eqb, ap}
use lib.Bits.{and_mask}
use Rattle.sets.specs.Sets.{holds}
use Rattle.sets.proofs.number_set.NumberSet.contains.Goals as goal

pub returns-then-number-lt64 : goal.returns-then-number-lt64
unfolding holds
returns-then-number-lt64 c = ap (λ bit. eqb bit 1) (and_mask (c.args.self.bits / 2 ^ c.args.number) 1)
