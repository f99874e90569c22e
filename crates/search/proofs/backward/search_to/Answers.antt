use Rattle.std.proofs.Common.{refl, ap, ◌∙◌, arith}
use Rattle.sets.specs.Sets.{member}
use Rattle.table.specs.Held.{meant, tally_of}
use Rattle.search.proofs.BackwardSteps.{seek_start, sought_done, sought_rest, visit_last, stands_reached}
use Rattle.search.proofs.TrailLaws.{queue_length}
use Rattle.search.proofs.SearchFrom.{all_reached}
use Rattle.search.proofs.backward.search_to.Goals as goal

pub reach-requires-clause-new : goal.reach-requires-clause-new
reach-requires-clause-new c = c.empty-trail.result.known c.args.mill.0 ∙ ap (member c.args.mill.0) c.empty-trail.ensures

pub loop-next-init : goal.loop-next-init
loop-next-init c = (
  omega arith,
  seek_start c.args.mill.0 c.empty-trail.result _ c.reach.new.self (record { queue = c.reach.ensures.queue; here = c.reach.ensures.link; others = c.reach.ensures.others })
      refl c.empty-trail.ensures (meant c.args.table.now) (tally_of c.args.table.now),
)

pub loop-number-preserved : goal.loop-number-preserved
loop-number-preserved c = c.visit_back.ensures _ _ c.loop-number.invariant

pub loop-next-preserved : goal.loop-next-preserved
loop-next-preserved c = (omega (arith, c.loop-number.invariant.within), visit_last _ c.loop-number-test.false c.loop-number.invariant)

pub returns-else-not-is_empty : goal.returns-else-not-is_empty
returns-else-not-is_empty c =
    sought_rest c.loop-next.invariant.1
    (stands_reached c.args.table.now c.loop-next.trail
    (all_reached (tally_of c.args.table.now) c.loop-next.trail c.service-service.result c.difference.result c.service-service.ensures c.difference.ensures c.if-not-is_empty.ensures))

pub returns-after-loop-next : goal.returns-after-loop-next
returns-after-loop-next c = sought_done c.loop-next.invariant.1 c.loop-next.invariant.0 (omega (arith, queue_length c.loop-next.trail, c.len.ensures.value, c.loop-next-test.false))
