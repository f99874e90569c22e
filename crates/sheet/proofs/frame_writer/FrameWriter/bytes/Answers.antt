use Rattle.std.proofs.Common.{[], get_or, take, sym, ap, ◌∙◌, subst, arith}
use Rattle.std.specs.List.{flat_map}
use Rattle.std.proofs.lemmas.List.{flat_map_more, length-take-le, take_all, take_more}
use Rattle.sheet.specs.Area.{Appends}
use Rattle.sheet.specs.Digits.{digits_for}
use Rattle.sheet.proofs.DigitLaws.{length_digits}
use Rattle.sheet.proofs.AppendSteps.{nothing, both}
use Rattle.sheet.proofs.frame_writer.FrameWriter.bytes.Goals as goal

pub loop-byte-init : goal.loop-byte-init
loop-byte-init c = nothing (omega arith)

pub byte-requires : goal.byte-requires
byte-requires c =
    let i = c.loop-byte.byte-index in
    omega (arith, length_digits (take i c.args.bytes.now), length-take-le i c.args.bytes.now (omega arith))

pub loop-byte-preserved : goal.loop-byte-preserved
loop-byte-preserved c =
    let bytes = c.args.bytes.now in
    let i = c.loop-byte.byte-index in
    both (flat_map_more digits_for [] (take i bytes) (get_or bytes i 0) ∙ ap (flat_map digits_for) (sym (take_more bytes i 0 (omega arith)))) c.loop-byte.invariant c.byte.ensures

pub returns : goal.returns
returns c = subst (λ bs. Appends (flat_map digits_for bs) c.args.self.now c.loop-byte.self) (take_all _ _ c.loop-byte-test.false) c.loop-byte.invariant
