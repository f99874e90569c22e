use Rattle.std.proofs.Common.{◌-◌, ◌≤◌, length}
use Rattle.table.specs.Held.{meant, tally_of}
use Rattle.search.specs.BackSearches.{Sought, Visiting}
use Rattle.search.specs.Trails.{queue_of}
use Rattle.search.proofs.backward.search_to.Given as goal

abbrev pub invariant-loop-next : goal.invariant-loop-next
invariant-loop-next l = (l.next ≤ length (queue_of l.trail)) × Sought (meant l.table) (tally_of l.table) l.fn.mill.0 l.trail l.next 0

abbrev pub invariant-loop-number : goal.invariant-loop-number
invariant-loop-number l = Visiting (meant l.table) (tally_of l.table) l.fn.mill.0 l.trail l.next l.towards.0 l.number

abbrev pub decreases-loop-next : goal.decreases-loop-next
decreases-loop-next l = 64 - l.next
