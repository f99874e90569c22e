-- A placement is even when no other semi-matching of the same tickets does better: not at any price list that never falls,
-- not by its highest load, and not by the number of busy mills.
use Rattle.std.specs.Prelude.{ℕ, suc, ◌≤◌, nat_lt}
use Rattle.semimatching.specs.Sums.{count_to, greatest_to}
use Rattle.semimatching.specs.Placements.{Shop, Placement, load, SemiMatching, SameTickets}
use Rattle.semimatching.specs.Prices.{alike, total}

abbrev pub highest_load : Shop → Placement → ℕ
highest_load shop at = greatest_to shop.mills (load shop at)

-- mills with at least one ticket
abbrev pub busy_mills : Shop → Placement → ℕ
busy_mills shop at = count_to shop.mills (λ m. nat_lt 0 (load shop at m))

-- a price list that never falls
abbrev pub Rising : (ℕ → ℕ) → Type 0
Rising list = (k : ℕ) → 1 ≤ k → list k ≤ list (suc k)

abbrev pub LeastTotal : Shop → Placement → Type 0
LeastTotal shop at =
    (list : ℕ → ℕ) → Rising list → (other : Placement) → SemiMatching shop other → SameTickets shop at other → total shop (alike list) at ≤ total shop (alike list) other

pub record Even (shop : Shop) (at : Placement) : Type 0 where
  pub least : LeastTotal shop at
  pub lowest : (other : Placement) → SemiMatching shop other → SameTickets shop at other → highest_load shop at ≤ highest_load shop other
  pub busiest : (other : Placement) → SemiMatching shop other → SameTickets shop at other → busy_mills shop other ≤ busy_mills shop at
