use Rattle.std.proofs.Common.{Ok, Err, sym, ap, ◌∙◌, arith}
use Rattle.std.proofs.lemmas.Result.{err_from_is_err_and}
use Rattle.sheet.specs.Content.{content}
use Rattle.sheet.proofs.DigitLaws.{length_bytes}
use Rattle.wire.specs.Commands.{for_board}
use Rattle.wire.specs.Kinds.{code_of}
use Rattle.wire.specs.declared.command.SetupCommand.TheVariants.{Strike, Alias}
use Rattle.wire.proofs.CommandSteps.{is_strike, is_alias, asks_board, asks_nothing, asks_strike, asks_alias}
use Rattle.wire.proofs.reader.setup_frame.Goals as goal
use Rattle.wire.proofs.reader.setup_frame.Goals.{in_default-via-in-Strike+in_default, in_default-via-in-Alias+in_default, in_default-via-in_default}

pub returns-in_err-try_from : goal.returns-in_err-try_from
returns-in_err-try_from c =
    let p = err_from_is_err_and c.from_residual.result c.from_residual.ensures.1 in
    rw (p.1, p.2) (ap Err c.in_err-try_from.ensures.0 ∙ sym (asks_nothing (content c.args.frame) c.in_err-try_from.ensures.1))

pub returns-in_err-board_frame-in_default : goal.returns-in_err-board_frame-in_default
returns-in_err-board_frame-in_default c =
    let f = content c.args.frame in
    let decoded = c.in_ok-try_from.ensures in
    let long = length_bytes c.args.frame.payload.now in
    let p = err_from_is_err_and c.from_residual-in_err-board_frame-in_default.result c.from_residual-in_err-board_frame-in_default.ensures.1 in
    rw (p.1, p.2) (ap for_board c.in_err-board_frame-in_default.ensures ∙ sym (elim c.in_default.branch [
      | in_default-via-in-Strike+in_default w ↦ let strike = ap code_of w.in_default.is-0 in asks_board f (λ k n. w.in_default.is-1.1 (sym long ∙ n)) (λ k n. omega (arith, decoded))
      | in_default-via-in-Alias+in_default w ↦ let alias = ap code_of w.in_default.is-0 in asks_board f (λ k n. omega (arith, decoded)) (λ k n. w.in_default.is-1.1 (sym long ∙ n))
      | in_default-via-in_default w ↦ asks_board f (λ k n. w.in_default.not-Strike-0 (is_strike _ (decoded ∙ k))) (λ k n. w.in_default.not-Alias-0 (is_alias _ (decoded ∙ k)))
    ]))

pub returns-in-Strike-eq2 : goal.returns-in-Strike-eq2
returns-in-Strike-eq2 c =
    let f = content c.args.frame in
    let kind = sym c.in_ok-try_from.ensures ∙ ap code_of c.in-Strike-eq2.is-0 in
    let two = length_bytes c.args.frame.payload.now ∙ c.in-Strike-eq2.is-1 in
    (λ i. Ok (Strike (record { 0 = c.byte_at.ensures i }) (record { 0 = c.byte_at-in-Strike-eq2.ensures i }))) ∙ sym (asks_strike f kind two)

pub returns-in-Alias-eq2 : goal.returns-in-Alias-eq2
returns-in-Alias-eq2 c =
    let f = content c.args.frame in
    let kind = sym c.in_ok-try_from.ensures ∙ ap code_of c.in-Alias-eq2.is-0 in
    let two = length_bytes c.args.frame.payload.now ∙ c.in-Alias-eq2.is-1 in
    (λ i. Ok (Alias (record { 0 = c.byte_at-in-Alias-eq2.ensures i }) (record { 0 = c.byte_at-in-Alias-eq2-2.ensures i }))) ∙ sym (asks_alias f kind two)
