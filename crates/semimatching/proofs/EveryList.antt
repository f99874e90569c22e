-- A potential at the prices 1, 2, 3 and so on gives one at any price list that never falls.
use Rattle.std.proofs.Common.{ℕ, zero, suc, ◌≤◌, max, arith}
use Rattle.semimatching.specs.Placements.{Shop, Placement, load, SemiMatching}
use Rattle.semimatching.specs.Prices.{alike, position, last_price}
use Rattle.semimatching.specs.Potentials.{Potential, None}
use Rattle.semimatching.specs.Even.{Rising, LeastTotal}
use Rattle.semimatching.proofs.Optimal.{price_rises, least_total}

last_every : (list : ℕ → ℕ) → Rising list → (m l v : ℕ) → last_price position m l ≤ v → last_price (alike list) m l ≤ list (max 1 v)
last_every list rise m zero v h = omega arith
last_every list rise m (suc l) v h = price_rises (alike list) (λ _. rise) m (suc l) (max 1 v) (omega arith) (omega arith)

pub every_list : (shop : Shop) (at : Placement) (list : ℕ → ℕ) → Rising list → Potential shop position at None → Potential shop (alike list) at None
every_list shop at list rise p = record {
  level = λ m. list (max 1 (p.level m));
  last = λ m h. last_every list rise m (load shop at m) (p.level m) (p.last m h);
  next = λ m h free. let below = p.next m h free in price_rises (alike list) (λ _. rise) m (max 1 (p.level m)) (suc (load shop at m)) (omega arith) (omega arith);
  rises = λ t a b h on hb able. let up = p.rises t a b h on hb able in price_rises (alike list) (λ _. rise) a (max 1 (p.level a)) (max 1 (p.level b)) (omega arith) (omega arith);
}

pub least_every : (shop : Shop) (at : Placement) → SemiMatching shop at → Potential shop position at None → LeastTotal shop at
least_every shop at semi p list rise = least_total shop (alike list) (λ _. rise) at semi (every_list shop at list rise p)
