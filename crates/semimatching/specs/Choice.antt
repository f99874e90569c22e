-- Which chain a call carries out: the rules, and the order that leaves one chain where the rules leave several.
use Rattle.std.specs.Prelude.{◌≡◌, ℕ, ◌≤◌, true, List, [], ◌∷◌, reverse}
use Rattle.semimatching.specs.Placements.{Shop, Placement, load}
use Rattle.semimatching.specs.Chains.{Step, Chain, Improving}
use Rattle.semimatching.specs.Walks.{NotAfter}

-- a chain from a new ticket n that begins at mill f, as a walk written from its last step back
abbrev pub walk_from : ℕ → ℕ → List Step → List Step
walk_from n f steps = reverse (record { ticket = n; mill = f } ∷ steps)

-- a chain from mill x, as a walk that leads from its last mill back to x: each ticket with the mill that it stands on
abbrev pub walk_back : ℕ → List Step → List Step
walk_back x [] = []
walk_back x (s ∷ ss) = record { ticket = s.ticket; mill = x } ∷ walk_back s.mill ss

-- a new ticket n goes to mill f, and the chain from f to w is carried out: no reached mill has a lower load than w,
-- no chain to a mill of that load has fewer tickets, and of those with as few it is the first in the order of walks
pub record Placing (shop : Shop) (at : Placement) (n f : ℕ) (steps : List Step) (w : ℕ) : Type 0 where
  pub may : shop.can n f ≡ true
  pub chain : Chain shop at f steps w
  pub least : (g : ℕ) (ss : List Step) (z : ℕ) → shop.can n g ≡ true → Chain shop at g ss z → load shop at w ≤ load shop at z
  pub first : (g : ℕ) (ss : List Step) (z : ℕ) → shop.can n g ≡ true → Chain shop at g ss z → load shop at z ≡ load shop at w → NotAfter (walk_from n f steps) (walk_from n g ss)

-- an improving chain from x to r: no mill with a chain to r has a greater load than x, no chain from a mill of that load
-- has fewer tickets, and of those with as few it is the first in the order of walks back from r
pub record Shifting (shop : Shop) (at : Placement) (x : ℕ) (steps : List Step) (r : ℕ) : Type 0 where
  pub chain : Chain shop at x steps r
  pub improves : Improving shop at x r
  pub greatest : (y : ℕ) (ss : List Step) → Chain shop at y ss r → load shop at y ≤ load shop at x
  pub first : (y : ℕ) (ss : List Step) → Chain shop at y ss r → load shop at y ≡ load shop at x → NotAfter (walk_back x steps) (walk_back y ss)
