use Rattle.std.proofs.Common.{suc, ◌-◌}
use Rattle.table.specs.Held.{meant, tally_of}
use Rattle.search.proofs.SearchFrom.{Walking, Standing}
use Rattle.search.proofs.forward.search_from.Given as goal

abbrev pub invariant-loop-number : goal.invariant-loop-number
invariant-loop-number l = Standing (meant l.table) (tally_of l.table) l.fn.ticket.0 l.fn.program.0 l.trail l.next l.mill.0 l.number

abbrev pub invariant-search : goal.invariant-search
invariant-search l = Walking (meant l.table) (tally_of l.table) l.fn.ticket.0 l.fn.program.0 l.trail (suc l.next) 0

abbrev pub decreases-search : goal.decreases-search
decreases-search l = 64 - l.next
