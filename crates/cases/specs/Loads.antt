-- Loads that differ by one, and what loads cost.
use Rattle.std.specs.Prelude.{◌≡◌, ℕ}
use Rattle.semimatching.specs.Placements.{Shop, Placement, load}
use Rattle.semimatching.specs.Chains.{Improving}
use Rattle.semimatching.specs.Prices.{total, position}
use Rattle.board.specs.Reports.{flow_time}

-- between mills of loads 2 and 1 no chain improves, either way
abbrev pub NoneImproves : Type 0
NoneImproves = (shop : Shop) (at : Placement) (v w : ℕ) → load shop at v ≡ 2 → load shop at w ≡ 1 → (Improving shop at v w → ⊥) × (Improving shop at w v → ⊥)

-- three mills with these loads
pub record Loaded (shop : Shop) (at : Placement) (first second third : ℕ) : Type 0 where
  pub three : shop.mills ≡ 3
  pub on_first : load shop at 0 ≡ first
  pub on_second : load shop at 1 ≡ second
  pub on_third : load shop at 2 ≡ third

-- loads of 2, 1, 0 cost 4 and loads of 1, 1, 1 cost 3: where a mill of load L costs L × (L + 1) / 2, and where its k-th ticket costs k
abbrev pub Cost : Shop → Placement → ℕ → Type 0
Cost shop at cost = (flow_time shop at ≡ cost) × (total shop position at ≡ cost)

abbrev pub Costs : Type 0
Costs = (shop : Shop) (at : Placement) → (Loaded shop at 2 1 0 → Cost shop at 4) × (Loaded shop at 1 1 1 → Cost shop at 3)
