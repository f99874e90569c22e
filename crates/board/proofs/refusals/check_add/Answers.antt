use Rattle.std.proofs.Common.{sym, ◌∙◌, arith}
use Rattle.std.proofs.lemmas.Result.{err_from_is_err_and}
use Rattle.table.specs.Held.{meant, tally_of}
use Rattle.table.specs.Tally.{standing}
use Rattle.board.proofs.CauseLaws.{add_range, add_stands, add_unable, add_accepted, seat_known, unable_since, able_since}
use Rattle.board.proofs.refusals.check_add.Goals as goal

pub returns-in_err-check_ticket : goal.returns-in_err-check_ticket
returns-in_err-check_ticket c =
    let table = c.args.table.now in
    let p = err_from_is_err_and c.from_residual.result c.from_residual.ensures.1 in
    rw (p.1, p.2, c.in_err-check_ticket.ensures.1) (λ room. add_range (meant table) (tally_of table) room c.args.ticket c.args.program c.in_err-check_ticket.ensures.0)

pub returns-then-is_some : goal.returns-then-is_some
returns-then-is_some c room =
    let table = c.args.table.now in
    let seat = seat_known table c.args.ticket.0 c.seat.result c.seat.ensures in
    add_stands (meant table) (tally_of table) room c.args.ticket c.args.program c.in_ok-check_ticket.ensures (seat ∙ sym c.if-is_some.ensures)

pub returns-then-is_empty : goal.returns-then-is_empty
returns-then-is_empty c room =
    let table = c.args.table.now in
    let seat = seat_known table c.args.ticket.0 c.seat.result c.seat.ensures in
    add_unable (meant table) (tally_of table) room c.args.ticket c.args.program c.in_ok-check_ticket.ensures (seat ∙ sym c.if-is_some.ensures)
    (unable_since table c.args.program.0 c.mills_for.result c.mills_for.ensures (sym c.if-is_empty.ensures))

pub returns : goal.returns
returns c =
    let table = c.args.table.now in
    let seat = seat_known table c.args.ticket.0 c.seat.result c.seat.ensures in (
      standing (tally_of table),
      add_accepted (meant table) (tally_of table) (standing (tally_of table)) c.args.ticket c.args.program c.in_ok-check_ticket.ensures (seat ∙ sym c.if-is_some.ensures)
          (able_since table c.args.program.0 c.mills_for.result c.mills_for.ensures (sym c.if-is_empty.ensures)) (omega arith),
    )
