use Rattle.std.proofs.Common.{take}
use Rattle.sheet.specs.Area.{Appends}
use Rattle.wire.specs.Replies.{moves_text}
use Rattle.wire.proofs.writer.put_moves.Given as goal

abbrev pub invariant-loop-moved : goal.invariant-loop-moved
invariant-loop-moved l = Appends (moves_text (take l.moved-index l.moves)) l.initial.frames l.frames
