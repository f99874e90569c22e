use Rattle.std.proofs.Common.{length, ap, ◌∙◌}
use Rattle.std.proofs.lemmas.Bool.{both_ways}
use Rattle.search.proofs.TrailLaws.{once_none}
use Rattle.search.proofs.trail.Trail.empty.Goals as goal

pub invariant_of-result-clause-once : goal.invariant_of-result-clause-once
invariant_of-result-clause-once c = ap length c.new.ensures ∙ once_none c.empty.result c.empty.ensures

pub invariant_of-result-clause-below : goal.invariant_of-result-clause-below
invariant_of-result-clause-below c k is = absurd (both_ways _ (c.empty.ensures k) is)
