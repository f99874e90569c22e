use Rattle.std.proofs.Common.{refl, arith}
use Rattle.sheet.proofs.AppendSteps.{both}
use Rattle.sheet.proofs.DigitLaws.{length_digits}
use Rattle.sheet.proofs.FrameWriteSteps.{check_is, frame_parts}
use Rattle.sheet.proofs.frame_writer.FrameWriter.frame.Goals as goal

pub byte-requires-3 : goal.byte-requires-3
byte-requires-3 c = omega (arith, length_digits c.args.payload.now)

pub character-requires : goal.character-requires
character-requires c = omega (arith, length_digits c.args.payload.now)

pub returns : goal.returns
returns c =
    let kind = c.args.kind in
    let payload = c.args.payload.now in
    let check = check_is kind payload c.wrapping_neg.result c.sum_of.result c.wrapping_neg.type_inv c.sum_of.ensures c.wrapping_neg.ensures in
    both (frame_parts kind payload c.wrapping_neg.result check) c.byte.ensures
    (both refl c.byte-2.ensures (both refl c.bytes.ensures (both refl c.byte-3.ensures c.character.ensures)))
