-- What a placement costs: each mill has a price for its first, second, third ticket and so on.
use Rattle.std.specs.Prelude.{ℕ, zero, suc, ◌≤◌}
use Rattle.semimatching.specs.Sums.{sum_to}
use Rattle.semimatching.specs.Placements.{Shop, Placement, load}

-- of a mill and a k from 1 on: the price of the k-th ticket on it
abbrev pub Prices : Type 0
Prices = ℕ → ℕ → ℕ

abbrev pub NeverFalls : Prices → Type 0
NeverFalls price = (m k : ℕ) → 1 ≤ k → price m k ≤ price m (suc k)

-- the prices from the first up to the load
abbrev pub cost : Prices → ℕ → ℕ → ℕ
cost price mill load = sum_to load (λ k. price mill (suc k))

abbrev pub total : Shop → Prices → Placement → ℕ
total shop price at = sum_to shop.mills (λ m. cost price m (load shop at m))

-- one price list for all mills
abbrev pub alike : (ℕ → ℕ) → Prices
alike list mill k = list k

-- the k-th ticket costs k
abbrev pub position : Prices
position mill k = k

-- the price of the last ticket on a mill of this load (0 where it is empty), and of the next one
abbrev pub last_price : Prices → ℕ → ℕ → ℕ
last_price price mill zero = 0
last_price price mill (suc l) = price mill (suc l)

abbrev pub next_price : Prices → ℕ → ℕ → ℕ
next_price price mill load = price mill (suc load)
