use Rattle.std.proofs.Common.{◌≡◌, Some, None, eqb, refl, ap, ◌∙◌}
use Rattle.std.proofs.lemmas.Bool.{cond-true, eq-eqb}
use Rattle.table.specs.Held.{meant, tally_of}
use Rattle.table.specs.Seats.{place_of}
use Rattle.table.specs.Tally.{mill_for, seated}
use Rattle.table.proofs.TallyLaws.{seated_twice}
use Rattle.table.proofs.table.Table.shift.Goals as goal

pub put-requires-clause-away : goal.put-requires-clause-away
put-requires-clause-away c =
    let t = c.args.ticket.0 in
    ap (λ tally. tally.seat t) c.take.ensures.tally ∙ cond-true {A = _} (eqb t t) None _ (eq-eqb t t refl)

pub put-requires-clause-may : goal.put-requires-clause-may
put-requires-clause-may c =
    let table = c.args.self.now in
    let to = c.args.to.0 in
    let seat = c.in-Some.seat in
    let same : place_of seat ≡ c.requires.0 = cc (c.in-Some.ensures.value, c.requires.1) in
    ap (λ meaning. mill_for meaning (tally_of c.take.new.self).service seat.program.0 to) c.take.ensures.meaning
    ∙ ap (λ tally. mill_for (meant table) tally.service seat.program.0 to) c.take.ensures.tally
    ∙ ap (λ place. mill_for (meant table) (tally_of table).service place.program to) same ∙ c.requires.2

pub returns-in-Some-clause-tally : goal.returns-in-Some-clause-tally
returns-in-Some-clause-tally c place at =
    let table = c.args.self.now in
    let t = c.args.ticket.0 in
    let to = c.args.to.0 in
    let seat = c.in-Some.seat in
    let same : place_of seat ≡ place = cc (c.in-Some.ensures.value, at) in
    c.put.ensures.tally ∙ ap (λ tally. seated tally t (Some (record { program = seat.program.0; mill = to }))) c.take.ensures.tally
    ∙ seated_twice (tally_of table) t None _ ∙ ap (λ p. seated (tally_of table) t (Some (record { program = p.program; mill = to }))) same
