use Rattle.board.proofs.RequestSteps.{running_start, running_more}
use Rattle.board.proofs.runs.perform_each.Goals as goal

pub loop-request-init : goal.loop-request-init
loop-request-init c = running_start c.args.table.now c.args.requests.now c.requires

pub loop-request-preserved : goal.loop-request-preserved
loop-request-preserved c =
    running_more _ _ _ _ _ c.loop-request.invariant c.loop-request.auto.requests c.loop-request-test.true c.request-item.result c.answer_request.new.request c.answer_request.new.table
    c.answer_request.ensures.meaning c.answer_request.ensures.turn
