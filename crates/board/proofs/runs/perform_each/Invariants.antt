use Rattle.board.proofs.RequestSteps.{Running}
use Rattle.board.proofs.runs.perform_each.Given as goal

abbrev pub invariant-loop-request : goal.invariant-loop-request
invariant-loop-request l = Running l.initial.table l.initial.requests l.request-index l.table l.requests
