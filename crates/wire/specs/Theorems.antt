-- What is proved of answers as a whole.
use Rattle.std.specs.Prelude.{◌≡◌, ◌^◌, ◌<◌, Ok}
use Rattle.vocabulary.specs.Told.{told}
use Rattle.sheet.specs.Lines.{lines_of}
use Rattle.sheet.specs.Frames.{only_frame, frame_text}
use Rattle.board.specs.declared.call.Answer.TheVariants.{Added, Moved}
use Rattle.board.specs.declared.moves.Move.{Move}
use Rattle.wire.specs.Replies.{reply_frame, move_frame}
use Rattle.wire.specs.declared.reply.Reply.{Reply}
use Rattle.wire.specs.declared.reply.Reply.TheVariants.{Called, Stands, Reported, Struck, Aliased, Refused}

-- the numbers of an answer fit their bytes
abbrev pub ReplyFits : Reply → Type 0
ReplyFits (Called call (Added mill count)) = (mill.0 < 2 ^ 8) × (count < 2 ^ 16)
ReplyFits (Called call (Moved count)) = count < 2 ^ 16
ReplyFits (Stands mill) = mill.0 < 2 ^ 8
ReplyFits (Reported report) = (report.highest_load < 2 ^ 16) × (report.busy_mills < 2 ^ 8) × (report.flow_time < 2 ^ 32)
ReplyFits Struck = Unit {0}
ReplyFits Aliased = Unit {0}
ReplyFits (Refused refusal) = (told refusal).place < 2 ^ 16

-- and so do those of a moved ticket
abbrev pub MoveFits : Move → Type 0
MoveFits r = (r.ticket.0 < 2 ^ 16) × (r.from.0 < 2 ^ 8) × (r.to.0 < 2 ^ 8)

-- a line that was written for an answer or for a moved ticket is read as the same frame
pub record ReadBack : Type 0 where
  pub replies : (reply : Reply) → ReplyFits reply → only_frame 0 (lines_of (frame_text (reply_frame reply))) ≡ Ok (reply_frame reply)
  pub moves : (r : Move) → MoveFits r → only_frame 0 (lines_of (frame_text (move_frame r))) ≡ Ok (move_frame r)
