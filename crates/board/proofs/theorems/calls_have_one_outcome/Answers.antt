use Rattle.board.proofs.OneOutcome.{one_outcome}
use Rattle.board.proofs.theorems.calls_have_one_outcome.Goals as goal

pub returns : goal.returns
returns c = one_outcome
