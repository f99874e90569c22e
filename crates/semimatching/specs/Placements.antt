-- Tickets stand on mills. A semi-matching is a placement that puts every standing ticket on a mill that it may stand on.
use Rattle.std.specs.Prelude.{◌≡◌, ℕ, ◌<◌, Bool, true, false, is_some, Some, None, Option, ◌==◌}
use Rattle.semimatching.specs.Sums.{count_to}

-- how many tickets and mills there may be, and which mills a ticket may stand on
pub record Shop : Type 0 where
  pub tickets : ℕ
  pub mills : ℕ
  pub can : ℕ → ℕ → Bool

-- for each ticket nothing, or the mill that it stands on
abbrev pub Placement : Type 0
Placement = ℕ → Option ℕ

abbrev pub stands_on : Option ℕ → ℕ → Bool
stands_on None mill = false
stands_on (Some m) mill = m == mill

-- the number of tickets on a mill
abbrev pub load : Shop → Placement → ℕ → ℕ
load shop at mill = count_to shop.tickets (λ t. stands_on (at t) mill)

-- every standing ticket is on one of its mills
abbrev pub SemiMatching : Shop → Placement → Type 0
SemiMatching shop at = (t m : ℕ) → t < shop.tickets → at t ≡ Some m → (m < shop.mills) × (shop.can t m ≡ true)

-- the same tickets stand
abbrev pub SameTickets : Shop → Placement → Placement → Type 0
SameTickets shop at other = (t : ℕ) → t < shop.tickets → is_some (at t) ≡ is_some (other t)
