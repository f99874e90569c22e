-- The lines of an answer: one frame by its case, and then a frame for each ticket that was moved.
use Rattle.std.specs.Prelude.{ℕ, ◌/◌, ◌%◌, List, [], ◌∷◌, ◌++◌, take}
use Rattle.std.specs.List.{flat_map}
use Rattle.vocabulary.specs.Told.{told}
use Rattle.sheet.specs.Frames.{Frame, frame_text}
use Rattle.board.specs.declared.call.Answer.TheVariants.{Added, Moved}
use Rattle.board.specs.declared.call.Call.{Call}
use Rattle.board.specs.declared.moves.Move.{Move}
use Rattle.wire.specs.Kinds.{code_of, kind_of, reply_code_of}
use Rattle.wire.specs.declared.kind.CommandKind.TheVariants as kind
use Rattle.wire.specs.declared.kind.ReplyKind.TheVariants as reply
use Rattle.wire.specs.declared.kind.ReplyKind.TheVariants.{Answer}
use Rattle.wire.specs.declared.reply.Reply.{Reply}
use Rattle.wire.specs.declared.reply.Reply.TheVariants.{Called, Stands, Reported, Struck, Aliased, Refused}

-- a number in two bytes, and one in four, the high byte first
abbrev pub two_bytes : ℕ → List ℕ
two_bytes n = n / 256 ∷ n % 256 ∷ []

abbrev pub four_bytes : ℕ → List ℕ
four_bytes n = two_bytes (n / 65536) ++ two_bytes (n % 65536)

-- the byte of the kind of a call's frame
abbrev pub call_kind : Call → ℕ
call_kind call = code_of (kind_of call)

-- the frame of an answer
abbrev pub reply_frame : Reply → Frame
reply_frame (Called call (Added mill count)) = record { kind = reply_code_of (Answer (kind_of call)); payload = mill.0 ∷ two_bytes count }
reply_frame (Called call (Moved count)) = record { kind = reply_code_of (Answer (kind_of call)); payload = two_bytes count }
reply_frame (Stands mill) = record { kind = reply_code_of (Answer kind.Where); payload = mill.0 ∷ [] }
reply_frame (Reported report) = record { kind = reply_code_of (Answer kind.Report); payload = two_bytes report.highest_load ++ (report.busy_mills ∷ four_bytes report.flow_time) }
reply_frame Struck = record { kind = reply_code_of (Answer kind.Strike); payload = [] }
reply_frame Aliased = record { kind = reply_code_of (Answer kind.Alias); payload = [] }
reply_frame (Refused refusal) = record { kind = reply_code_of reply.Refused; payload = (told refusal).number ∷ two_bytes (told refusal).place }

-- the frame of a moved ticket: the ticket, the mill before the call and the one after it
abbrev pub move_frame : Move → Frame
move_frame r = record { kind = reply_code_of reply.Moved; payload = two_bytes r.ticket.0 ++ (r.from.0 ∷ r.to.0 ∷ []) }

-- how many moved tickets an answer tells
abbrev pub moves_told : Reply → ℕ
moves_told (Called call (Added mill count)) = count
moves_told (Called call (Moved count)) = count
moves_told (Stands mill) = 0
moves_told (Reported report) = 0
moves_told Struck = 0
moves_told Aliased = 0
moves_told (Refused refusal) = 0

-- the lines of moved tickets
abbrev pub moves_text : List Move → List ℕ
moves_text = flat_map (λ r. frame_text (move_frame r))

-- all lines of an answer, where the records of the moved tickets stand first in a list
abbrev pub reply_text : Reply → List Move → List ℕ
reply_text reply records = frame_text (reply_frame reply) ++ moves_text (take (moves_told reply) records)
