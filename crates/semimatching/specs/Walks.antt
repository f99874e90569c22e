-- Walks over mills, and the order by which one of several shortest is chosen.
use Rattle.std.specs.Prelude.{◌≡◌, ℕ, ◌<◌, ◌⊎◌, List, [], ◌∷◌, length}
use Rattle.semimatching.specs.Chains.{Step}

-- a step before another: the lower ticket, and of one ticket the lower mill
abbrev pub Sooner : Step → Step → Type 0
Sooner r s = (r.ticket < s.ticket) ⊎ ((r.ticket ≡ s.ticket) × (r.mill < s.mill))

-- of two walks of one length, written from their last step back: the one that is sooner at the first step where they differ
abbrev pub Earlier : List Step → List Step → Type 0
Earlier [] [] = ⊥
Earlier [] (s ∷ q) = ⊥
Earlier (r ∷ p) [] = ⊥
Earlier (r ∷ p) (s ∷ q) = Earlier p q ⊎ ((p ≡ q) × Sooner r s)

-- the order of choice: fewer steps first, and then the earlier
abbrev pub Before : List Step → List Step → Type 0
Before p q = (length p < length q) ⊎ ((length p ≡ length q) × Earlier p q)

abbrev pub NotAfter : List Step → List Step → Type 0
NotAfter p q = (p ≡ q) ⊎ Before p q

-- from a node, the steps that may be taken
abbrev pub Edges : Type 1
Edges = ℕ → Step → Type 0

-- a walk, written from its last step back: each step may be taken from the mill that the steps before it lead to
abbrev pub Walk : Edges → ℕ → List Step → ℕ → Type 0
Walk edge start [] x = start ≡ x
Walk edge start (s ∷ p) x = (y : ℕ) × Walk edge start p y × edge y s × (s.mill ≡ x)
