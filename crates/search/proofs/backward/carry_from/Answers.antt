use Rattle.std.proofs.Common.{sym, refl, ◌∙◌}
use Rattle.search.proofs.BackwardWays.{carry_start, carry_end, carry_may, carry_step, carry_less}
use Rattle.search.proofs.backward.carry_from.Goals as goal

pub loop-link-init : goal.loop-link-init
loop-link-init c = (refl, carry_start c.requires)

pub shift-requires : goal.shift-requires
shift-requires c = carry_may c.loop-link.invariant.1 _ (sym c.link_to.ensures ∙ c.in-Some.is)

pub loop-link-smaller : goal.loop-link-smaller
loop-link-smaller c = carry_less c.loop-link.invariant.1 _ (sym c.link_to.ensures ∙ c.in-Some.is)

pub loop-link-preserved : goal.loop-link-preserved
loop-link-preserved c =
    (c.shift.ensures.meaning ∙ c.loop-link.invariant.0, carry_step c.loop-link.invariant.1 _ (sym c.link_to.ensures ∙ c.in-Some.is) _ _ c.shift.ensures.meaning c.shift.ensures.tally)

pub returns-clause-tally : goal.returns-clause-tally
returns-clause-tally c = carry_end c.loop-link.invariant.1 (sym c.link_to.ensures ∙ c.in_default.is)
