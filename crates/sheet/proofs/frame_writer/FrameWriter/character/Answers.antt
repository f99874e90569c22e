use Rattle.std.proofs.Common.{refl, arith}
use Rattle.std.proofs.lemmas.List.{length-set}
use Rattle.sheet.proofs.PutLaws.{put_one}
use Rattle.sheet.proofs.frame_writer.FrameWriter.character.Goals as goal

pub returns : goal.returns
returns c =
    let area = c.args.self.now.area.now in
    let long = length-set area c.args.self.now.at c.args.character in
    record { behind = refl; inside = omega arith; text = put_one _ _ area (omega arith); same_length = long; same_area = refl }
