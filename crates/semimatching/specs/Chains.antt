-- Chains: from a mill through a ticket standing on it to another of that ticket's mills, and so forth, with no mill twice.
use Rattle.std.specs.Prelude.{◌≡◌, ℕ, ◌+◌, ◌<◌, ◌≤◌, true, cond, List, [], ◌∷◌, Some, ◌==◌, ◌≢◌}
use Rattle.semimatching.specs.Placements.{Shop, Placement, load}

-- a ticket that goes to a mill
pub record Step : Type 0 where
  pub ticket : ℕ
  pub mill : ℕ

-- each ticket stands on the mill before and may stand on its own
abbrev pub Linked : Shop → Placement → ℕ → List Step → ℕ → Type 0
Linked shop at v [] w = v ≡ w
Linked shop at v (s ∷ ss) w =
    (s.ticket < shop.tickets) × (at s.ticket ≡ Some v) × (s.mill < shop.mills) × (shop.can s.ticket s.mill ≡ true) × Linked shop at s.mill ss w

-- the mills of a chain from v
abbrev pub mills_on : ℕ → List Step → List ℕ
mills_on v [] = v ∷ []
mills_on v (s ∷ ss) = v ∷ mills_on s.mill ss

abbrev pub NotIn : ℕ → List ℕ → Type 0
NotIn x [] = Unit {0}
NotIn x (y ∷ ys) = (x ≢ y) × NotIn x ys

abbrev pub Distinct : List ℕ → Type 0
Distinct [] = Unit {0}
Distinct (x ∷ xs) = NotIn x xs × Distinct xs

pub record Chain (shop : Shop) (at : Placement) (v : ℕ) (steps : List Step) (w : ℕ) : Type 0 where
  pub start : v < shop.mills
  pub linked : Linked shop at v steps w
  pub once : Distinct (mills_on v steps)

-- carrying out a chain moves each ticket in it to the next mill
abbrev pub moved : Placement → Step → Placement
moved at s t = cond (t == s.ticket) (Some s.mill) (at t)

abbrev pub carried : Placement → List Step → Placement
carried at [] = at
carried at (s ∷ ss) = carried (moved at s) ss

-- a chain from v to w is improving when the load of v is at least the load of w plus 2
abbrev pub Improving : Shop → Placement → ℕ → ℕ → Type 0
Improving shop at v w = load shop at w + 2 ≤ load shop at v

abbrev pub NoImprovingChain : Shop → Placement → Type 0
NoImprovingChain shop at = (v w : ℕ) (steps : List Step) → Chain shop at v steps w → Improving shop at v w → ⊥
