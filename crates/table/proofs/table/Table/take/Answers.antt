use Rattle.std.proofs.Common.{None, sym, get_or, ap, ◌∙◌, arith}
use Rattle.table.specs.Held.{tally_of}
use Rattle.table.specs.Tally.{seated}
use Rattle.table.proofs.EditSteps.{stood_few, stood_exists, stood_some, take_counted, reseated, reseated_able, reseated_whole, changed_complete}
use Rattle.table.proofs.table.Table.take.Goals as goal

pub bounds-self-from-2 : goal.bounds-self-from-2
bounds-self-from-2 c = omega (arith, stood_few c.args.self.now c.args.ticket.0 c.in_ok-seat.seat c.in_ok-seat.ensures)

pub overflow_sub-self : goal.overflow_sub-self
overflow_sub-self c =
    let table = c.args.self.now in
    omega (arith, stood_some table c.args.ticket.0 c.in_ok-seat.seat c.in_ok-seat.ensures, ap (λ k. get_or table.loads k 0) c.from-2.ensures)

pub bounds-self-from-3 : goal.bounds-self-from-3
bounds-self-from-3 c = omega (arith, stood_few c.args.self.now c.args.ticket.0 c.in_ok-seat.seat c.in_ok-seat.ensures)

pub invariant_of-self : goal.invariant_of-self
invariant_of-self c =
    let table = c.args.self.now in
    let place = c.from.result in
    let stood = c.in_ok-seat.ensures ∙ ap (tally_of table).seat (sym c.from.ensures) in
    let exists = stood_exists table place c.in_ok-seat.seat stood in
    record {
      below = table.below;
      able = reseated_able table place exists None tt;
      counted = take_counted table place c.in_ok-seat.seat stood c.from-2.result c.from-2.ensures (omega (arith, table.complete, stood_few table place c.in_ok-seat.seat stood));
      whole = reseated_whole table place exists None;
      complete = changed_complete table c.from-2.result _;
    }

pub returns-clause-tally : goal.returns-clause-tally
returns-clause-tally c =
    let table = c.args.self.now in
    let place = c.from.result in
    let stood = c.in_ok-seat.ensures ∙ ap (tally_of table).seat (sym c.from.ensures) in
    reseated table place (stood_exists table place c.in_ok-seat.seat stood) None ∙ ap (λ t. seated (tally_of table) t None) c.from.ensures
