-- A placement that has the least total at every price list is even: its highest load is lowest, and it has the most busy mills.
use Rattle.std.proofs.Common.{◌≡◌, ℕ, zero, suc, ◌+◌, ◌<◌, ◌≤◌, cond, ltb, leb, is_some, Some, None, Option, refl, ap, ⊎_elim, arith}
use Rattle.std.proofs.lemmas.Bool.{cases_lt, cond-false, lt-leb}
use Rattle.std.proofs.lemmas.Bool.Decides.{nat_tests}
use Rattle.semimatching.specs.Sums.{sum_to, count_to}
use Rattle.semimatching.specs.Placements.{Shop, Placement, load, SemiMatching}
use Rattle.semimatching.specs.Prices.{alike, position, cost, total}
use Rattle.semimatching.specs.Potentials.{Potential, None as Nowhere}
use Rattle.semimatching.specs.Even.{Rising, LeastTotal, Even, highest_load, busy_mills}
use Rattle.semimatching.proofs.Sums.{sum_same, sum_le, sum_add, sum-zero, sum_scale, sum_term_le, greatest_above, greatest_least}
use Rattle.semimatching.proofs.Loads.{weight_of, weigh}
use Rattle.semimatching.proofs.EveryList.{least_every}

-- the list with 0 up to h, and then 1
abbrev above : ℕ → ℕ → ℕ
above h k = cond (leb k h) 0 1

above_rises : (h : ℕ) → Rising (above h)
above_rises h k low = grind (arith, nat_tests)

cost_under : (h m l : ℕ) → l ≤ h → cost (alike (above h)) m l ≤ 0
cost_under h m l low =
    omega (arith, sum_le l (λ k. above h (suc k)) (λ k. 0) (λ k less. grind (arith, nat_tests)), sum-zero l)

cost_over : (h m l : ℕ) → h < l → 1 ≤ cost (alike (above h)) m l
cost_over h m l high = omega (arith, sum_term_le l (λ k. above h (suc k)) h high, cond-false {A = ℕ} (leb (suc h) h) 0 1 (lt-leb (suc h) h (omega arith)))

total_under : (shop : Shop) (at : Placement) → total shop (alike (above (highest_load shop at))) at ≤ 0
total_under shop at =
    let h = highest_load shop at in
    omega (
      arith,
      sum_le shop.mills (λ m. cost (alike (above h)) m (load shop at m)) (λ m. 0) (λ m low. cost_under h m (load shop at m) (greatest_above shop.mills (load shop at) m low)),
      sum-zero shop.mills,
    )

-- the tickets that stand
stands : (o : Option ℕ) → weight_of (λ _. 1) o ≡ cond (is_some o) 1 0
stands None = refl
stands (Some m) = refl

standing : (shop : Shop) (at : Placement) → SemiMatching shop at → sum_to shop.mills (load shop at) ≡ count_to shop.tickets (λ t. is_some (at t))
standing shop at semi =
    omega (
      arith,
      weigh shop at semi (λ _. 1),
      sum_scale shop.mills 1 (load shop at),
      sum_same shop.tickets (λ t. weight_of (λ _. 1) (at t)) (λ t. cond (is_some (at t)) 1 0) (λ t h. stands (at t)),
    )

cost_busy : (m l : ℕ) → cost (alike (above 1)) m l + cond (ltb 0 l) 1 0 ≡ l
unfolding sum_to
cost_busy m zero = omega arith
cost_busy m (suc zero) = omega arith
cost_busy m (suc (suc l)) =
    let before = cost_busy m (suc l) in
    grind (arith, nat_tests)

total_busy : (shop : Shop) (at : Placement) → SemiMatching shop at → total shop (alike (above 1)) at + busy_mills shop at ≡ count_to shop.tickets (λ t. is_some (at t))
total_busy shop at semi =
    omega (
      arith,
      standing shop at semi,
      sum_add shop.mills (λ m. cost (alike (above 1)) m (load shop at m)) (λ m. cond (ltb 0 (load shop at m)) 1 0),
      sum_same shop.mills (λ m. cost (alike (above 1)) m (load shop at m) + cond (ltb 0 (load shop at m)) 1 0) (load shop at) (λ m h. cost_busy m (load shop at m)),
    )

pub even_from_least : (shop : Shop) (at : Placement) → SemiMatching shop at → LeastTotal shop at → Even shop at
even_from_least shop at semi least = record {
  least = least;
  lowest = λ other semi_other same.
      let h = highest_load shop other in
      let none = least (above h) (above_rises h) other semi_other same in
      greatest_least shop.mills (load shop at) h (λ m low. ⊎_elim
      (λ (over : h < load shop at m).
      absurd (omega (arith, total_under shop other, cost_over h m (load shop at m) over, sum_term_le shop.mills (λ k. cost (alike (above h)) k (load shop at k)) m low)))
      (λ (under : load shop at m ≤ h). under)
      (cases_lt h (load shop at m)));
  busiest = λ other semi_other same.
      omega (
        arith,
        least (above 1) (above_rises 1) other semi_other same,
        total_busy shop at semi,
        total_busy shop other semi_other,
        sum_same shop.tickets (λ t. cond (is_some (at t)) 1 0) (λ t. cond (is_some (other t)) 1 0) (λ t h. ap (λ b. cond b 1 0) (same t h)),
      );
}

pub even_from_potential : (shop : Shop) (at : Placement) → SemiMatching shop at → Potential shop position at Nowhere → Even shop at
even_from_potential shop at semi p = even_from_least shop at semi (least_every shop at semi p)
