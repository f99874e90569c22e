use Rattle.semimatching.proofs.EveryList.{least_every}
use Rattle.semimatching.proofs.EvenFrom.{even_from_potential}
use Rattle.semimatching.proofs.Exactly.{least_no_chain}
use Rattle.semimatching.proofs.NoChain.{no_chain_potential}
use Rattle.semimatching.proofs.even_without_improving_chain.Goals as goal

pub returns : goal.returns
returns c = record {
  least = λ shop at semi. (λ none. least_every shop at semi (no_chain_potential shop at semi none), least_no_chain shop at semi);
  even = λ shop at semi none. even_from_potential shop at semi (no_chain_potential shop at semi none);
}
