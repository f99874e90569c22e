-- How long an answer is: its first line, and those of the moved tickets.
use Rattle.std.proofs.Common.{◌≡◌, ℕ, ◌+◌, ◌*◌, ◌≤◌, List, ◌++◌, length, drop, ap, ◌∙◌, arith}
use Rattle.std.proofs.lemmas.List.{length-append}
use Rattle.sheet.specs.Area.{put}
use Rattle.sheet.specs.Frames.{frame_text}
use Rattle.sheet.proofs.FrameLaws.{length_frame}
use Rattle.sheet.proofs.PutLaws.{put_front}
use Rattle.board.specs.declared.call.Answer.TheVariants.{Added, Moved}
use Rattle.board.specs.declared.moves.Move.{Move}
use Rattle.wire.specs.Replies.{reply_frame, moves_text}
use Rattle.wire.specs.declared.reply.Reply.{Reply}
use Rattle.wire.specs.declared.reply.Reply.TheVariants.{Called, Stands, Reported, Struck, Aliased, Refused}
use Rattle.wire.proofs.MoveSteps.{length_moves}

-- the longest first line is that of a report
few_bytes : (reply : Reply) → length (reply_frame reply).payload ≤ 7
few_bytes (Called call (Added mill count)) = omega arith
few_bytes (Called call (Moved count)) = omega arith
few_bytes (Stands mill) = omega arith
few_bytes (Reported report) = omega arith
few_bytes Struck = omega arith
few_bytes Aliased = omega arith
few_bytes (Refused refusal) = omega arith

pub length_head : (reply : Reply) → length (frame_text (reply_frame reply)) ≤ 21
length_head reply = omega (arith, length_frame (reply_frame reply), few_bytes reply)

pub length_lines : (reply : Reply) (moves : List Move) → length (frame_text (reply_frame reply) ++ moves_text moves) ≤ 21 + 15 * length moves
length_lines reply moves = omega (arith, length-append (frame_text (reply_frame reply)) (moves_text moves), length_head reply, length_moves moves)

-- what a writer leaves of an area that it began at the front of
pub front_text : {after : List ℕ} (text area began now : List ℕ) (at behind long : ℕ) → at ≡ 0 → began ≡ area → now ≡ put at text began → behind ≡ at + length text → long ≡ behind → after ≡ now → after ≡ text ++ drop long area
front_text text area began now at behind long front same is ends told left =
    let back : length text ≡ long = omega arith in
    left ∙ is ∙ (λ i. put (front i) text (same i)) ∙ put_front text area ∙ ap (λ n. text ++ drop n area) back
