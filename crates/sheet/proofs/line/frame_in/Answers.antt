use Rattle.std.proofs.Common.{◌≡◌, ◌+◌, ◌-◌, ◌*◌, ◌/◌, length, get_or, take, drop, Ok, sym, refl, ap, ◌∙◌, arith}
use Rattle.sheet.specs.Digits.{bytes_of}
use Rattle.sheet.proofs.FrameSteps.{wrong_count, wrong_sum, right_frame, payload_digits}
use Rattle.sheet.proofs.line.frame_in.Goals as goal

pub returns-then-from-count : goal.returns-then-from-count
returns-then-from-count c =
    wrong_count c.args.line c.args.characters.now (sym c.well_formed-2.ensures ∙ c.if-not-well_formed.false)
    (λ e. c.if-from-count.true (c.from.ensures ∙ c.byte_at.ensures ∙ e))

pub returns-then-byte_sum-ne0 : goal.returns-then-byte_sum-ne0
returns-then-byte_sum-ne0 c =
    wrong_sum c.args.line c.args.characters.now (sym c.well_formed-2.ensures ∙ c.if-not-well_formed.false)
    (sym (c.from.ensures ∙ c.byte_at.ensures) ∙ c.if-from-count.false)
    (λ e. c.if-byte_sum-ne0.true (c.byte_sum.ensures ∙ e))

pub returns : goal.returns
returns c =
    let cs = c.args.characters.now in
    let n = length cs / 2 - 3 in
    let kind : get_or (bytes_of cs) 0 0 ≡ c.byte_at-2.result = sym c.byte_at-2.ensures in
    let cut : 2 * n ≡ 4 + 2 * n - 4 = omega arith in
    let payload : take (length (bytes_of cs) - 3) (drop 2 (bytes_of cs)) ≡ bytes_of (take (4 + 2 * n - 4) (drop 4 cs)) = sym (payload_digits cs n refl) ∙ ap (λ k. bytes_of (take k (drop 4 cs))) cut in
    right_frame c.args.line cs (sym c.well_formed-2.ensures ∙ c.if-not-well_formed.false)
    (sym (c.from.ensures ∙ c.byte_at.ensures) ∙ c.if-from-count.false)
    (sym c.byte_sum.ensures ∙ c.if-byte_sum-ne0.false)
    ∙ ap Ok (λ j. record { kind = kind j; payload = payload j })
