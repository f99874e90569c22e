use Rattle.board.proofs.Replacing.{Replacing}
use Rattle.board.proofs.rules.place_again.Given as goal

abbrev pub invariant-loop-number : goal.invariant-loop-number
invariant-loop-number l = Replacing l.before l.initial.table l.mill.0 l.number l.table
