use Rattle.std.proofs.Common.{◌+◌, get_or, sym, refl, subst, ◌∙◌, arith}
use Rattle.std.proofs.lemmas.Bool.{both_ways, eqb-true, eq-eqb}
use Rattle.table.specs.Held.{meant, tally_of}
use Rattle.table.specs.Seats.{place_of}
use Rattle.table.proofs.TableLaws.{semi}
use Rattle.search.specs.declared.trail.Trail.{Trail}
use Rattle.search.proofs.SearchFrom.{Walking, Standing, walk_start, enter_on, enter_stop, walk_stand, stand_skip, stand_done, stand_on, stand_stop, walk_end, walk_early, for_below, seat_none, seat_other, all_reached}
use Rattle.search.proofs.TrailLaws.{queue_length}
use Rattle.search.proofs.forward.search_from.Goals as goal
use Rattle.search.proofs.forward.search_from.Goals.{After-mills_for, at-search-init, at-returns-then-visit, in-Some+else-eq, else-eq-via-then-eq+else-visit-2, else-eq-via-else-eq, in_default}

started : (c : After-mills_for) → Walking (meant c.args.table.now) (tally_of c.args.table.now) c.args.ticket.0 c.args.program.0 c.empty-trail.result 0 c.args.ticket.0
started c = walk_start _ _ _ _ c.requires.exists c.requires.away c.empty-trail.result c.empty-trail.ensures

pub search-init : goal.search-init
search-init c =
    enter_on _ _ _ _ c.empty-trail.result (started (at-search-init c).After-mills_for) c.empty-trail.ensures c.mills_for.result c.mills_for.ensures
    c.visit.new.self c.requires.some.0 (for_below c.args.table.now c.args.program.0 c.requires.some.0 c.requires.some.1) c.requires.some.1
    (c.if-visit.ensures.all refl) (c.if-visit.ensures.busy refl)

pub returns-then-visit : goal.returns-then-visit
returns-then-visit c =
    enter_stop _ _ _ _ c.empty-trail.result (started (at-returns-then-visit c).After-mills_for) c.empty-trail.ensures c.mills_for.result c.mills_for.ensures
    c.visit.new.self (c.if-visit.ensures.stopped refl)

pub loop-number-init : goal.loop-number-init
loop-number-init c =
    walk_stand _ _ _ _ c.search.trail c.search.next c.deref.result.now c.search.invariant (omega (arith, c.search-test.true, c.len.ensures.value)) c.deref.ensures.0

pub loop-number-preserved : goal.loop-number-preserved
loop-number-preserved c =
    let S = c.loop-number.invariant in
    let tally = tally_of c.args.table.now in
    let mill = get_or c.deref.result.now c.search.next (record { 0 = 0 }) in
    let number = c.loop-number.number in
    let next : Trail → Type 0 = λ trail. Standing (meant c.args.table.now) tally c.args.ticket.0 c.args.program.0 trail c.search.next mill.0 (number + 1) in
    elim c.match-seat.branch [
      | in-Some+else-eq w ↦ subst next (sym w.trail-is) (elim w.else-eq.branch [
        | else-eq-via-then-eq+else-visit-2 v ↦ subst next (sym v.trail-is) (stand_on _ _ _ _ c.loop-number.trail S
            (place_of w.in-Some.seat) (sym w.in-Some.ensures) (eqb-true _ _ (sym w.eq.ensures ∙ v.if-eq.true)) c.loop-number-test.true
            v.mills_for-then-eq.result v.mills_for-then-eq.ensures (record { 0 = number }) refl mill refl
            v.visit-then-eq.new.self (v.if-visit-2.ensures.all refl) (v.if-visit-2.ensures.busy refl))
        | else-eq-via-else-eq v ↦ subst next (sym v.trail-is) (stand_skip _ _ _ _ c.loop-number.trail S
            (seat_other tally number mill.0 w.in-Some.seat w.in-Some.ensures (λ e. both_ways _ (sym w.eq.ensures ∙ v.if-eq.false) (eq-eqb _ _ e))))
      ])
      | in_default w ↦ subst next (sym w.trail-is) (stand_skip _ _ _ _ c.loop-number.trail S (seat_none tally number mill.0 w.in_default.ensures))
    ]

pub search-preserved : goal.search-preserved
search-preserved c = stand_done _ _ _ _ c.loop-number.trail c.loop-number.invariant c.loop-number-test.false

pub returns-else-not-is_empty : goal.returns-else-not-is_empty
returns-else-not-is_empty c =
    walk_early _ _ _ _ c.search.trail c.search.invariant (semi c.args.table.now)
    (all_reached (tally_of c.args.table.now) c.search.trail c.service-service.result c.difference.result c.service-service.ensures c.difference.ensures c.if-not-is_empty.ensures)

pub returns-after-search : goal.returns-after-search
returns-after-search c = walk_end _ _ _ _ c.search.trail c.search.invariant (semi c.args.table.now) (omega (arith, queue_length c.search.trail, c.len.ensures.value, c.search-test.false))

pub returns-then-visit-2 : goal.returns-then-visit-2
returns-then-visit-2 c =
    stand_stop _ _ _ _ c.loop-number.trail c.loop-number.invariant (place_of c.in-Some.seat) (sym c.in-Some.ensures) (eqb-true _ _ (sym c.eq.ensures ∙ c.if-eq.true))
    c.loop-number-test.true c.mills_for-then-eq.result c.mills_for-then-eq.ensures (record { 0 = c.loop-number.number }) refl (get_or c.deref.result.now c.search.next (record { 0 = 0 })) refl
    c.visit-then-eq.new.self (c.if-visit-2.ensures.stopped refl)
