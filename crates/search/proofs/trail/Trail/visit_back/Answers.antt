use Rattle.std.proofs.Common.{sym, ◌∙◌}
use Rattle.table.specs.Seats.{place_of}
use Rattle.table.proofs.TableLaws.{stands_few}
use Rattle.search.proofs.BackwardSteps.{seat_low, visit_known, visit_unable, visit_new}
use Rattle.search.proofs.trail.Trail.visit_back.Goals as goal
use Rattle.search.proofs.trail.Trail.visit_back.Goals.{else-not-contains-via-then-not-contains+else-contains, else-not-contains-via-else-not-contains}

pub reach-requires-clause-mill : goal.reach-requires-clause-mill
reach-requires-clause-mill c = seat_low c.args.table.now c.args.ticket.0 (place_of c.in-Some.seat) (sym c.in-Some.ensures)

pub returns-then-contains : goal.returns-then-contains
returns-then-contains c mill place V =
    let seat = sym c.in-Some.ensures in
    visit_new V (place_of c.in-Some.seat) seat (sym c.if-not-contains.ensures) (sym (c.mills_for.ensures _) ∙ sym c.if-contains.ensures)
    (stands_few c.args.table.now _ _ seat)
    (record { queue = c.reach.ensures.queue; here = c.reach.ensures.link; others = c.reach.ensures.others })

pub returns-else-not-contains : goal.returns-else-not-contains
returns-else-not-contains c mill place V =
    let seat = sym c.in-Some.ensures in
    elim c.else-not-contains.branch [
      | else-not-contains-via-then-not-contains+else-contains w ↦ visit_unable V (place_of c.in-Some.seat) seat (sym (w.mills_for.ensures _) ∙ sym w.if-contains.ensures)
      | else-not-contains-via-else-not-contains w ↦ visit_known V (place_of c.in-Some.seat) seat (sym w.if-not-contains.ensures)
    ]
