use Rattle.std.proofs.Common.{◌≡◌}
use Rattle.table.specs.Held.{meant, tally_of}
use Rattle.search.proofs.BackwardWays.{Carrying, way_length}
use Rattle.search.proofs.backward.carry_from.Given as goal

abbrev pub invariant-loop-link : goal.invariant-loop-link
invariant-loop-link l =
    (meant l.table ≡ meant l.initial.table) × Carrying (meant l.table) (tally_of l.initial.table) (tally_of l.table) l.trail l.initial.from.0 l.from.0

abbrev pub decreases-loop-link : goal.decreases-loop-link
decreases-loop-link l = way_length l.trail 64 l.from.0
