use Rattle.std.proofs.Common.{◌≡◌, sym, refl, ◌∙◌, subst}
use Rattle.semimatching.specs.Placements.{SemiMatching}
use Rattle.table.specs.Held.{meant, tally_of}
use Rattle.table.specs.Tally.{shop_in, placement}
use Rattle.table.proofs.TableLaws.{semi}
use Rattle.search.specs.Rules.{EvenIn}
use Rattle.search.proofs.PlaceSteps.{follow_start, follow_low, follow_may, follow_on, follow_less, end_away, end_may, end_rule}
use Rattle.search.proofs.PlacedEven.{end_even}
use Rattle.search.proofs.forward.place.Goals as goal

pub loop-link-init : goal.loop-link-init
loop-link-init c = (refl, follow_start _ _ _ _ c.search_from-trail.result c.lightest-end.result.0 (c.search_from-trail.ensures.explored _ c.lightest-end.ensures))

pub link_to-requires : goal.link_to-requires
link_to-requires c = follow_low _ _ _ _ c.search_from-trail.result c.loop-link.invariant.1

pub shift-requires : goal.shift-requires
shift-requires c =
    follow_may _ _ _ _ c.search_from-trail.result c.loop-link.invariant.1 c.requires.away c.in-Some.link (sym c.link_to.ensures ∙ c.in-Some.is) (meant c.loop-link.table) c.loop-link.invariant.0

pub loop-link-smaller : goal.loop-link-smaller
loop-link-smaller c = follow_less _ _ _ _ c.search_from-trail.result c.loop-link.invariant.1 c.requires.away c.in-Some.link (sym c.link_to.ensures ∙ c.in-Some.is)

pub loop-link-preserved : goal.loop-link-preserved
loop-link-preserved c = (
  c.shift.ensures.meaning ∙ c.loop-link.invariant.0,
  follow_on _ _ _ _ c.search_from-trail.result c.loop-link.invariant.1 c.requires.away c.in-Some.link (sym c.link_to.ensures ∙ c.in-Some.is) _ c.shift.ensures.tally,
)

pub put-requires-clause-away : goal.put-requires-clause-away
put-requires-clause-away c = end_away _ _ _ _ c.search_from-trail.result c.loop-link.invariant.1 c.requires.away (sym c.link_to.ensures ∙ c.in_default.is)

pub put-requires-clause-may : goal.put-requires-clause-may
put-requires-clause-may c =
    end_may _ _ _ _ c.search_from-trail.result c.loop-link.invariant.1 c.requires.away (sym c.link_to.ensures ∙ c.in_default.is) (meant c.loop-link.table) c.loop-link.invariant.0

pub returns-clause-rule : goal.returns-clause-rule
returns-clause-rule c =
    end_rule _ _ _ _ c.search_from-trail.result c.loop-link.invariant.1 c.requires.away (sym c.link_to.ensures ∙ c.in_default.is) (tally_of c.put.new.self) c.put.ensures.tally

pub returns-clause-even : goal.returns-clause-even
returns-clause-even c even =
    let same : meant c.put.new.self ≡ meant c.args.table.now = c.put.ensures.meaning ∙ c.loop-link.invariant.0 in
    let after = tally_of c.put.new.self in
    subst (λ m. EvenIn m after) (sym same)
    (end_even _ _ _ _ c.search_from-trail.result c.loop-link.invariant.1 c.requires.away (sym c.link_to.ensures ∙ c.in_default.is) after c.put.ensures.tally (semi c.args.table.now)
    (subst (λ m. SemiMatching (shop_in m after) (placement after)) same (semi c.put.new.self)) even)
