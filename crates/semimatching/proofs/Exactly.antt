-- What carrying out a chain does to the total; a placement of least total has no improving chain.
use Rattle.std.proofs.Common.{◌≡◌, ℕ, ◌+◌, ◌<◌, cond, eqb, List, sym, ap, ◌∙◌, subst, ⊎_elim, add-one, arith}
use Rattle.std.proofs.lemmas.Bool.{cases_eq}
use Rattle.std.proofs.lemmas.Bool.Decides.{nat_tests}
use Rattle.semimatching.specs.Sums.{sum_to}
use Rattle.semimatching.specs.Placements.{Shop, Placement, load, SemiMatching}
use Rattle.semimatching.specs.Prices.{Prices, cost, total, position, last_price, next_price}
use Rattle.semimatching.specs.Chains.{Step, Chain, carried, Improving, NoImprovingChain}
use Rattle.semimatching.specs.Even.{LeastTotal}
use Rattle.semimatching.proofs.Sums.{sum_same, sum_add, sum_one}
use Rattle.semimatching.proofs.Carrying.{chain_end, carried_first, carried_last, carried_other, carried_semi, carried_same}
use Rattle.semimatching.proofs.NoChain.{last_position}

-- one ticket more
pub cost_more : (price : Prices) (m l k : ℕ) → k ≡ l + 1 → (cost price m k ≡ cost price m l + next_price price m l) × (last_price price m k ≡ next_price price m l)
unfolding sum_to
cost_more price m l k e = let up = e ∙ add-one l in (ap (cost price m) up, ap (last_price price m) up)

module _ (shop : Shop) (price : Prices) (at : Placement) (v : ℕ) (steps : List Step) (w : ℕ) (c : Chain shop at v steps w) (apart : v ≡ w → ⊥) where
  abbrev after : Placement
  after = carried at steps

  abbrev gone : ℕ → ℕ
  gone m = cond (eqb m v) (last_price price v (load shop at v)) 0

  abbrev come : ℕ → ℕ
  come m = cond (eqb m w) (next_price price w (load shop at w)) 0

  abbrev Changed : ℕ → Type 0
  Changed m = cost price m (load shop after m) + gone m ≡ cost price m (load shop at m) + come m

  cost-carried : (m : ℕ) → Changed m
  cost-carried m =
      ⊎_elim
      (λ (here : m ≡ v).
      let less = cost_more price v (load shop after v) (load shop at v) (sym (carried_first shop at v steps w c apart)) in
      subst Changed (sym here) (grind (arith, nat_tests)))
      (λ (not_v : m ≡ v → ⊥).
      ⊎_elim
      (λ (here : m ≡ w).
      let more = cost_more price w (load shop at w) (load shop after w) (carried_last shop at v steps w c apart) in
      subst Changed (sym here) (grind (arith, nat_tests)))
      (λ (not_w : m ≡ w → ⊥).
      let same = ap (cost price m) (carried_other shop at v steps w c m not_v not_w) in
      grind (arith, nat_tests))
      (cases_eq m w))
      (cases_eq m v)

  -- the last price of the first mill goes, the next price of the last mill comes
  pub carried-total : total shop price (carried at steps) + last_price price v (load shop at v) ≡ total shop price at + next_price price w (load shop at w)
  carried-total =
      let M = shop.mills in
      omega (
        arith,
        sum_same M (λ m. cost price m (load shop after m) + gone m) (λ m. cost price m (load shop at m) + come m) (λ m low. cost-carried m),
        sum_add M (λ m. cost price m (load shop after m)) gone,
        sum_add M (λ m. cost price m (load shop at m)) come,
        sum_one M v (last_price price v (load shop at v)) c.start,
        sum_one M w (next_price price w (load shop at w)) (chain_end shop at v steps w c),
      )

pub improving_lowers : (shop : Shop) (at : Placement) (v : ℕ) (steps : List Step) (w : ℕ) → Chain shop at v steps w → Improving shop at v w
    → total shop position (carried at steps) < total shop position at
improving_lowers shop at v steps w c better =
    omega (arith, carried-total shop position at v steps w c (λ e. omega (arith, ap (load shop at) e)), last_position v (load shop at v))

pub least_no_chain : (shop : Shop) (at : Placement) → SemiMatching shop at → LeastTotal shop at → NoImprovingChain shop at
least_no_chain shop at semi least v w steps c better =
    omega (
      arith,
      improving_lowers shop at v steps w c better,
      least (λ k. k) (λ k h. omega arith) (carried at steps) (carried_semi shop at v steps w semi c) (carried_same shop at v steps w c),
    )
