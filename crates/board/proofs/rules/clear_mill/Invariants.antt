use Rattle.board.proofs.Clearing.{Clearing}
use Rattle.board.proofs.rules.clear_mill.Given as goal

abbrev pub invariant-loop-number : goal.invariant-loop-number
invariant-loop-number l = Clearing l.initial.table l.mill.0 l.number l.table
