use Rattle.std.proofs.Common.{subst}
use Rattle.sheet.specs.Area.{Appends}
use Rattle.sheet.specs.Frames.{Frame, frame_text}
use Rattle.wire.proofs.writer.put_move.Goals as goal

pub returns : goal.returns
returns c =
    subst (λ (f : Frame). Appends (frame_text f) c.args.frames.now c.frame.new.self) (λ i. record { kind = c.into.ensures i; payload = c.move_payload.ensures i }) c.frame.ensures
