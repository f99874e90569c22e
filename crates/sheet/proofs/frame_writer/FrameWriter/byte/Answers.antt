use Rattle.std.proofs.Common.{[], ◌∷◌, ◌+◌, ◌∙◌, set, refl, arith}
use Rattle.std.proofs.lemmas.List.{length-set}
use Rattle.sheet.specs.Area.{put}
use Rattle.sheet.proofs.PutLaws.{put_two}
use Rattle.sheet.proofs.frame_writer.FrameWriter.byte.Goals as goal

pub returns : goal.returns
returns c =
    let area = c.args.self.now.area.now in
    let at = c.args.self.now.at in
    let high = c.digit_for.result in
    let low = c.digit_for-2.result in
    let long = length-set (set area at high) (at + 1) low ∙ length-set area at high in
    record {
      behind = refl;
      inside = omega arith;
      text = put_two at high low area (omega arith) ∙ (λ i. put at (c.digit_for.ensures i ∷ c.digit_for-2.ensures i ∷ []) area);
      same_length = long;
      same_area = refl;
    }
