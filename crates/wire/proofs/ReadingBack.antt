-- The lines of answers are read again, since every byte of their frames is below 256.
use Rattle.std.proofs.Common.{◌≡◌, ◌+◌, ◌<◌, [], Ok, sym, ap, ◌∙◌, arith}
use Rattle.std.proofs.lemmas.List.{append-nil}
use Rattle.vocabulary.specs.Told.{told}
use Rattle.vocabulary.specs.declared.refusal.Refusal.{Refusal}
use Rattle.vocabulary.specs.declared.refusal.Refusal.TheVariants.{BadLine, WrongCount, WrongSum, NotDue, WrongValue, TableFull, NoSuchTicket, Standing, NotStanding, NoAbleMill, NoSuchMill, SameService, Stranded, ShortList, FullMagazine, ShortArea, NoMills}
use Rattle.sheet.specs.Lines.{lines_of}
use Rattle.sheet.specs.Frames.{Frame, frame_text, only_frame}
use Rattle.sheet.proofs.FrameLaws.{Fits, frame_back, lines_frame}
use Rattle.board.specs.declared.call.Answer.TheVariants.{Added, Moved}
use Rattle.board.specs.declared.call.Call.{Call}
use Rattle.board.specs.declared.call.Call.TheVariants.{Add, Done, Withdraw, Return}
use Rattle.board.specs.declared.moves.Move.{Move}
use Rattle.wire.specs.Replies.{call_kind, reply_frame, move_frame}
use Rattle.wire.specs.Theorems.{ReplyFits, MoveFits, ReadBack}
use Rattle.wire.specs.declared.reply.Reply.{Reply}
use Rattle.wire.specs.declared.reply.Reply.TheVariants.{Called, Stands, Reported, Struck, Aliased, Refused}

-- a line that holds one frame is read as that frame
line_back : (f : Frame) → Fits f → only_frame 0 (lines_of (frame_text f)) ≡ Ok f
line_back f fits =
    ap (λ t. only_frame 0 (lines_of t)) (sym (append-nil (frame_text f)))
    ∙ ap (only_frame 0) (lines_frame f [] fits)
    ∙ frame_back 0 f fits

small_kind : (call : Call) → call_kind call + 128 < 256
small_kind (Add ticket program) = omega arith
small_kind (Done ticket) = omega arith
small_kind (Withdraw mill) = omega arith
small_kind (Return mill) = omega arith

small_number : (refusal : Refusal) → (told refusal).number < 256
small_number (BadLine line) = omega arith
small_number (WrongCount line) = omega arith
small_number (WrongSum line) = omega arith
small_number (NotDue line) = omega arith
small_number (WrongValue line) = omega arith
small_number TableFull = omega arith
small_number (NoSuchTicket ticket) = omega arith
small_number (Standing ticket) = omega arith
small_number (NotStanding ticket) = omega arith
small_number (NoAbleMill ticket) = omega arith
small_number (NoSuchMill mill) = omega arith
small_number (SameService mill) = omega arith
small_number (Stranded ticket) = omega arith
small_number (ShortList standing) = omega arith
small_number (FullMagazine tools) = omega arith
small_number (ShortArea needed) = omega arith
small_number NoMills = omega arith

reply_fits : (reply : Reply) → ReplyFits reply → Fits (reply_frame reply)
reply_fits (Called call (Added mill count)) fits = (small_kind call, omega arith, (omega arith, (omega arith, (omega arith, tt))))
reply_fits (Called call (Moved count)) fits = (small_kind call, omega arith, (omega arith, (omega arith, tt)))
reply_fits (Stands mill) fits = (omega arith, omega arith, (omega arith, tt))
reply_fits (Reported report) fits =
    (omega arith, omega arith, (omega arith, (omega arith, (omega arith, (omega arith, (omega arith, (omega arith, (omega arith, tt))))))))
reply_fits Struck fits = (omega arith, omega arith, tt)
reply_fits Aliased fits = (omega arith, omega arith, tt)
reply_fits (Refused refusal) fits = (omega arith, omega arith, (small_number refusal, (omega arith, (omega arith, tt))))

move_fits : (r : Move) → MoveFits r → Fits (move_frame r)
move_fits r fits = (omega arith, omega arith, (omega arith, (omega arith, (omega arith, (omega arith, tt)))))

pub read_back : ReadBack
read_back = record {
  replies = λ reply fits. line_back (reply_frame reply) (reply_fits reply fits);
  moves = λ r fits. line_back (move_frame r) (move_fits r fits);
}
