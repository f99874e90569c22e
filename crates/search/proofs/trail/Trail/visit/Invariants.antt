use Rattle.table.specs.Held.{tally_of}
use Rattle.search.specs.Visits.{load_in}
use Rattle.search.proofs.VisitSteps.{Reached, Laden}
use Rattle.search.proofs.trail.Trail.visit.Given as goal

abbrev pub invariant-loop-mill : goal.invariant-loop-mill
invariant-loop-mill l = Reached l.link l.initial.self l.self l.yielded × Laden (load_in (tally_of l.table)) l.yielded
