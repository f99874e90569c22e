-- What `collect` takes from the iterator is what remains to it.
use Rattle.std.proofs.Common.{subst}
use Rattle.std.proofs.lemmas.Iterator.{YieldsList, items_from_collect}
use Rattle.sets.specs.Sets.{Step}
use Rattle.sets.proofs.Members.{members_road}
use Rattle.sets.proofs.number_set.tests.listed.Goals as goal

pub returns : goal.returns
returns c = items_from_collect c.collect.result c.collect.ensures.ran (subst (YieldsList Step (λ n. n) c.iter.result) c.iter.ensures (members_road c.iter.result))
