use Rattle.std.proofs.Common.{◌++◌, rules}
use Rattle.sheet.specs.Frames.{frame_text}
use Rattle.wire.specs.Replies.{reply_frame, moves_text}
use Rattle.wire.proofs.ReplySteps.{front_text}
use Rattle.wire.proofs.writer.put_text.Goals as goal

pub returns-clause-text : goal.returns-clause-text
returns-clause-text c =
    let lines = frame_text (reply_frame c.args.reply) ++ moves_text c.args.moves.now in
    let wrote = c.put_lines.ensures.text in
    front_text lines c.args.area.now c.new-frames.result.area.now c.put_lines.new.frames.area.now _ _ c.written.result c.new-frames.ensures.place c.new-frames.ensures.area wrote.text wrote.behind c.written.ensures (search rules)
