use Rattle.board.proofs.Settling.{settling_more, settling_falls, settled_all}
use Rattle.board.proofs.rules.settle.Goals as goal

pub loop-mill-smaller : goal.loop-mill-smaller
loop-mill-smaller c = settling_falls _ _ _ c.loop-mill.invariant _ _ c.shift.ensures c.loop-mill-test.true

pub loop-mill-preserved : goal.loop-mill-preserved
loop-mill-preserved c = settling_more _ _ _ c.loop-mill.invariant _ _ c.shift.ensures c.loop-mill-test.true

pub returns-clause-settled : goal.returns-clause-settled
returns-clause-settled c = settled_all _ _ _ c.loop-mill.invariant _ _ c.shift.ensures c.loop-mill-test.false
