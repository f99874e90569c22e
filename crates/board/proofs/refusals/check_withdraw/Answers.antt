use Rattle.std.proofs.Common.{sym, ◌∙◌, arith}
use Rattle.std.proofs.lemmas.Result.{err_from_is_err_and}
use Rattle.table.specs.Held.{meant, tally_of}
use Rattle.table.specs.Tally.{standing}
use Rattle.board.proofs.CauseLaws.{withdraw_range, withdraw_out, withdraw_stranded, withdraw_accepted}
use Rattle.board.proofs.refusals.check_withdraw.Goals as goal

pub returns-in_err-check_mill : goal.returns-in_err-check_mill
returns-in_err-check_mill c =
    let table = c.args.table.now in
    let p = err_from_is_err_and c.from_residual.result c.from_residual.ensures.1 in
    rw (p.1, p.2, c.in_err-check_mill.ensures.1) (λ room. withdraw_range (meant table) (tally_of table) room c.args.mill c.in_err-check_mill.ensures.0)

pub returns-then-not-contains : goal.returns-then-not-contains
returns-then-not-contains c room =
    let table = c.args.table.now in
    let serves = sym (c.service.ensures c.args.mill.0) ∙ sym c.if-not-contains.ensures in
    withdraw_out (meant table) (tally_of table) room c.args.mill c.in_ok-check_mill.ensures serves

pub returns-in-Some : goal.returns-in-Some
returns-in-Some c room =
    let table = c.args.table.now in
    let serves = sym (c.service.ensures c.args.mill.0) ∙ sym c.if-not-contains.ensures in
    withdraw_stranded (meant table) (tally_of table) room c.args.mill c.in_ok-check_mill.ensures serves c.in-Some.ticket c.in-Some.ensures.0 c.in-Some.ensures.1

pub returns : goal.returns
returns c =
    let table = c.args.table.now in
    let serves = sym (c.service.ensures c.args.mill.0) ∙ sym c.if-not-contains.ensures in
    (standing (tally_of table), withdraw_accepted (meant table) (tally_of table) (standing (tally_of table)) c.args.mill c.in_ok-check_mill.ensures serves c.in_default.ensures (omega arith))
