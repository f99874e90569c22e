use Rattle.std.proofs.Common.{◌∙◌, arith}
use Rattle.std.proofs.lemmas.Result.{err_from_is_err_and}
use Rattle.table.specs.Held.{meant, tally_of}
use Rattle.table.specs.Tally.{standing}
use Rattle.board.proofs.CauseLaws.{done_range, done_away, done_accepted, seat_known}
use Rattle.board.proofs.refusals.check_done.Goals as goal

pub returns-in_err-check_ticket : goal.returns-in_err-check_ticket
returns-in_err-check_ticket c =
    let table = c.args.table.now in
    let p = err_from_is_err_and c.from_residual.result c.from_residual.ensures.1 in
    rw (p.1, p.2, c.in_err-check_ticket.ensures.1) (λ room. done_range (meant table) (tally_of table) room c.args.ticket c.in_err-check_ticket.ensures.0)

pub returns-then-is_none : goal.returns-then-is_none
returns-then-is_none c room =
    let table = c.args.table.now in
    let seat = seat_known table c.args.ticket.0 c.seat.result c.seat.ensures in
    done_away (meant table) (tally_of table) room c.args.ticket c.in_ok-check_ticket.ensures (seat ∙ c.if-is_none.ensures)

pub returns : goal.returns
returns c =
    let table = c.args.table.now in
    let seat = seat_known table c.args.ticket.0 c.seat.result c.seat.ensures in
    (standing (tally_of table), done_accepted (meant table) (tally_of table) (standing (tally_of table)) c.args.ticket c.in_ok-check_ticket.ensures (seat ∙ c.if-is_none.ensures) (omega arith))
