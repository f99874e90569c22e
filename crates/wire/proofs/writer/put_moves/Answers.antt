use Rattle.std.proofs.Common.{arith}
use Rattle.std.proofs.lemmas.List.{length-take-le}
use Rattle.sheet.proofs.AppendSteps.{nothing, both}
use Rattle.wire.proofs.MoveSteps.{length_moves, moves_more}
use Rattle.wire.proofs.writer.put_moves.Goals as goal

pub loop-moved-init : goal.loop-moved-init
loop-moved-init c = nothing (omega arith)

pub put_move-requires : goal.put_move-requires
put_move-requires c = omega (arith, length_moves, length-take-le c.loop-moved.moved-index c.args.moves.now (omega arith))

pub loop-moved-preserved : goal.loop-moved-preserved
loop-moved-preserved c = both (moves_more c.args.moves.now c.loop-moved.moved-index _ c.loop-moved-test.true) c.loop-moved.invariant c.put_move.ensures
