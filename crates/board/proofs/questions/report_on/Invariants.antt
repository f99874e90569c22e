use Rattle.board.proofs.Reporting.{Reporting}
use Rattle.board.proofs.Settling.{load_on}
use Rattle.board.proofs.questions.report_on.Given as goal

abbrev pub invariant-loop-mill : goal.invariant-loop-mill
invariant-loop-mill l = Reporting (load_on l.table) l.mill l.report
