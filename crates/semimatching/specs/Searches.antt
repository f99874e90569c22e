-- The graphs that the two searches go through.
use Rattle.std.specs.Prelude.{◌≡◌, ℕ, ◌<◌, true, ◌⊎◌, Some}
use Rattle.semimatching.specs.Placements.{Shop, Placement}
use Rattle.semimatching.specs.Chains.{Step}
use Rattle.semimatching.specs.Walks.{Edges}

-- from a mill through each ticket that stands on it to each other mill of that ticket
abbrev pub Onward : Shop → Placement → ℕ → Step → Type 0
Onward shop at y s = (s.ticket < shop.tickets) × (at s.ticket ≡ Some y) × (s.mill < shop.mills) × (shop.can s.ticket s.mill ≡ true)

-- the same, and from the new ticket n itself (which has the number of no mill) to each of its mills
abbrev pub FromTicket : Shop → Placement → ℕ → Edges
FromTicket shop at n y s = ((y ≡ shop.mills) × (s.ticket ≡ n) × (s.mill < shop.mills) × (shop.can n s.mill ≡ true)) ⊎ ((y < shop.mills) × Onward shop at y s)

-- from a mill back to each mill on which a ticket stands that may go to it; the step names that ticket and where it stands
abbrev pub Backward : Shop → Placement → Edges
Backward shop at y s = (y < shop.mills) × (s.ticket < shop.tickets) × (at s.ticket ≡ Some s.mill) × (shop.can s.ticket y ≡ true)
