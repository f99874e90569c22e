-- A potential certifies that a placement is even: a level for each mill, between the price of its last and of its next ticket,
-- that does not fall from a mill on which a ticket stands to any other mill of that ticket.
use Rattle.std.specs.Prelude.{◌≡◌, ℕ, ◌<◌, ◌≤◌, true, Some}
use Rattle.semimatching.specs.Placements.{Shop, Placement, load}
use Rattle.semimatching.specs.Prices.{Prices, last_price, next_price}

-- the level may be above the next price at the mills that are `free`
pub record Potential (shop : Shop) (price : Prices) (at : Placement) (free : ℕ → Type 0) : Type 0 where
  pub level : ℕ → ℕ
  pub last : (m : ℕ) → m < shop.mills → last_price price m (load shop at m) ≤ level m
  pub next : (m : ℕ) → m < shop.mills → (free m → ⊥) → level m ≤ next_price price m (load shop at m)
  pub rises : (t a b : ℕ) → t < shop.tickets → at t ≡ Some a → b < shop.mills → shop.can t b ≡ true → level a ≤ level b

-- no mill is free
abbrev pub None : ℕ → Type 0
None m = ⊥
