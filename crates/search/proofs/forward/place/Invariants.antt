use Rattle.std.proofs.Common.{◌≡◌}
use Rattle.table.specs.Held.{meant, tally_of}
use Rattle.search.specs.Trails.{ticket_of, from_of}
use Rattle.search.proofs.PlaceSteps.{Following, hops}
use Rattle.search.proofs.forward.place.Given as goal

abbrev pub invariant-loop-link : goal.invariant-loop-link
invariant-loop-link l =
    (meant l.table ≡ meant l.initial.table)
    × Following (meant l.initial.table) (tally_of l.initial.table) l.ticket.0 l.program.0 (ticket_of l.ticket.0 l.trail) (from_of l.trail) (tally_of l.table) l.to.0

abbrev pub decreases-loop-link : goal.decreases-loop-link
decreases-loop-link l = hops 64 (from_of l.trail) l.to.0
