use Rattle.std.proofs.Common.{◌-◌}
use Rattle.board.proofs.Settling.{Settling, load_on}
use Rattle.board.proofs.rules.settle.Given as goal

abbrev pub invariant-loop-mill : goal.invariant-loop-mill
invariant-loop-mill l = Settling l.initial.table l.mill.0 l.table

abbrev pub decreases-loop-mill : goal.decreases-loop-mill
decreases-loop-mill l = 1024 - load_on l.table l.mill.0
