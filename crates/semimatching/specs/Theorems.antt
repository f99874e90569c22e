-- What is proved of placements as a whole.
use Rattle.semimatching.specs.Placements.{Shop, Placement, SemiMatching}
use Rattle.semimatching.specs.Chains.{NoImprovingChain}
use Rattle.semimatching.specs.Even.{LeastTotal, Even}

-- a semi-matching has no improving chain exactly when its total is least at every price list that never falls
abbrev pub LeastExactly : Type 0
LeastExactly = (shop : Shop) (at : Placement) → SemiMatching shop at → (NoImprovingChain shop at → LeastTotal shop at) × (LeastTotal shop at → NoImprovingChain shop at)

-- and then it is even in every way
abbrev pub EvenThen : Type 0
EvenThen = (shop : Shop) (at : Placement) → SemiMatching shop at → NoImprovingChain shop at → Even shop at
