-- What a search from a new ticket is for: the first of the lightest mills that it reached, and the way there.
use Rattle.std.specs.Prelude.{◌≡◌, ℕ, ◌<◌, List, [], ◌∷◌, length, Option, MatchOption}
use Rattle.capability.specs.Meaning.{Meaning}
use Rattle.semimatching.specs.Chains.{Step, moved, carried}
use Rattle.semimatching.specs.Choice.{walk_from, Placing}
use Rattle.semimatching.specs.Placements.{Shop, Placement, load}
use Rattle.semimatching.specs.Potentials.{Potential, None}
use Rattle.semimatching.specs.Prices.{position}
use Rattle.table.specs.Tally.{Tally, placement}
use Rattle.search.specs.declared.trail.Trail.{Trail}
use Rattle.search.specs.Firsts.{Lightest}
use Rattle.search.specs.Rules.{shop_for}
use Rattle.search.specs.Trails.{queue_of, ticket_of, from_of}

-- the links from w back to the new ticket spell the walk p: by which ticket each mill was reached, and from which mill, or from none
abbrev pub Leads : ℕ → (ℕ → ℕ) → (ℕ → Option ℕ) → List Step → ℕ → Type 0
Leads mills ticket from [] w = ⊥
Leads mills ticket from (s ∷ p) w = (w < mills) × (s ≡ record { ticket = ticket w; mill = w }) × MatchOption (from w) (p ≡ []) (Leads mills ticket from p)

-- the way by which the rule of adding places the ticket n with its last step to w: the links spell it,
-- and with the ticket placed a potential is left where there was one
pub record Route (shop : Shop) (at : Placement) (n : ℕ) (ticket : ℕ → ℕ) (from : ℕ → Option ℕ) (w : ℕ) : Type 0 where
  pub first : ℕ
  pub steps : List Step
  pub placing : Placing shop at n first steps w
  pub links : Leads shop.mills ticket from (walk_from n first steps) w
  pub keeps : Potential shop position at None → Potential shop position (carried (moved at (record { ticket = n; mill = first })) steps) None

-- enough was reached: to the first of the lightest mills there is such a way
abbrev pub Explored : Shop → Placement → ℕ → List ℕ → (ℕ → ℕ) → (ℕ → Option ℕ) → Type 0
Explored shop at n queue ticket from = (w : ℕ) → Lightest (load shop at) queue w → Route shop at n ticket from w

-- a search from the ticket n has ended: some mill was reached, and enough of them
pub record Ended (meaning : Meaning) (tally : Tally) (n program : ℕ) (trail : Trail) : Type 0 where
  pub some : 0 < length (queue_of trail)
  pub explored : Explored (shop_for meaning tally n program) (placement tally) n (queue_of trail) (ticket_of n trail) (from_of trail)
