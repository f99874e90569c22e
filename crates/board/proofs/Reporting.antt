-- The report on the mills below a bound, and that the flow time is the total at position prices.
use Rattle.std.proofs.Common.{◌≡◌, ℕ, zero, suc, ◌+◌, ◌*◌, ◌/◌, ◌<◌, ◌≤◌, max, cond, ltb, sym, refl, ap, ◌∙◌, suc-mul, mul-le-mul, mul-suc, add-one, arith}
use native.Mathlib.Nat.{div-le_of_le-mul, mul-div_cancel_left}
use Rattle.semimatching.specs.Placements.{Shop, Placement, load}
use Rattle.semimatching.specs.Prices.{position, cost, total}
use Rattle.semimatching.specs.Sums.{sum_to, count_to, greatest_to}
use Rattle.semimatching.proofs.Sums.{sum_same, count_le}
use Rattle.table.specs.Held.{meant, tally_of}
use Rattle.table.specs.Tally.{shop_in, placement}
use Rattle.table.specs.declared.table.Table.{Table}
use Rattle.board.specs.Reports.{mill_cost, flow_time, Reported}
use Rattle.board.specs.declared.report.Report.{Report}
use Rattle.board.proofs.Settling.{load_on}

-- ---- the cost of a mill

square : (n : ℕ) → suc n * (suc n + 1) ≡ n * (n + 1) + 2 * suc n
square n =
    let e : suc n + 1 ≡ suc (n + 1) = omega arith in
    omega (arith, suc-mul n (suc n + 1), ap (λ k. n * k) e, mul-suc n (n + 1))

-- the prices 1, 2, 3 and so on, twice over
gauss : (n : ℕ) → 2 * sum_to n (λ k. suc k) ≡ n * (n + 1)
unfolding sum_to
gauss zero = refl
gauss (suc n) = omega (arith, gauss n, square n)

cost-position : (m n : ℕ) → cost position m n ≡ mill_cost n
cost-position m n = sym (ap (λ k. k / 2) (sym (gauss n)) ∙ mul-div_cancel_left (sum_to n (λ k. suc k)) (let two : 0 < 2 = omega arith in two))

pub flow_total : (shop : Shop) (at : Placement) → flow_time shop at ≡ total shop position at
flow_total shop at = sum_same shop.mills _ _ (λ m low. sym (cost-position m (load shop at m)))

-- a mill of at most 1,024 tickets
pub cost_few : (n : ℕ) → n ≤ 1024 → mill_cost n ≤ 524800
cost_few n few =
    let more : n + 1 ≤ 1025 = omega arith in
    div-le_of_le-mul 2 (mul-le-mul few more)

-- ---- the loop over mills

-- what is told of the mills below n
pub record Reporting (loads : ℕ → ℕ) (n : ℕ) (report : Report) : Type 0 where
  pub highest_is : report.highest_load ≡ greatest_to n loads
  pub busy_is : report.busy_mills ≡ count_to n (λ m. ltb 0 (loads m))
  pub flow_is : report.flow_time ≡ sum_to n (λ m. mill_cost (loads m))
  pub small : report.flow_time ≤ n * 524800

pub reporting_none : (loads : ℕ → ℕ) (report : Report) → report.highest_load ≡ 0 → report.busy_mills ≡ 0 → report.flow_time ≡ 0 → Reporting loads 0 report
unfolding sum_to greatest_to
reporting_none loads report highest busy flow = record {
  highest_is = highest;
  busy_is = busy;
  flow_is = flow;
  small = omega arith;
}

module _ (loads : ℕ → ℕ) (n : ℕ) (report : Report) (so : Reporting loads n report) where
  pub reporting_busy : report.busy_mills ≤ n
  reporting_busy = omega (arith, so.busy_is, count_le n (λ m. ltb 0 (loads m)))

  pub reporting_more : loads n ≤ 1024 → (here : ℕ) (report' : Report) → here ≡ loads n → report'.highest_load ≡ max report.highest_load here
      → report'.busy_mills ≡ report.busy_mills + cond (ltb 0 here) 1 0 → report'.flow_time ≡ report.flow_time + mill_cost here → Reporting loads (n + 1) report'
  unfolding sum_to greatest_to
  reporting_more few here report' is top more adds = record {
    highest_is = top ∙ (λ i. max (so.highest_is i) (is i)) ∙ ap (λ k. greatest_to k loads) (sym (add-one n));
    busy_is = more ∙ (λ i. so.busy_is i + cond (ltb 0 (is i)) 1 0) ∙ ap (λ k. count_to k (λ m. ltb 0 (loads m))) (sym (add-one n));
    flow_is = adds ∙ (λ i. so.flow_is i + mill_cost (is i)) ∙ ap (λ k. sum_to k (λ m. mill_cost (loads m))) (sym (add-one n));
    small = omega (arith, so.small, adds, ap mill_cost is, cost_few (loads n) few);
  }

-- ---- all mills

pub reported : (table : Table) (n : ℕ) (report : Report) → Reporting (load_on table) n report → n ≡ 64 → Reported (meant table) (tally_of table) report
reported table n report so all =
    let shop = shop_in (meant table) (tally_of table) in
    let flows = so.flow_is ∙ ap (λ k. sum_to k (λ m. mill_cost (load_on table m))) all in
    record {
      highest = so.highest_is ∙ ap (λ k. greatest_to k (load_on table)) all;
      busy = so.busy_is ∙ ap (λ k. count_to k (λ m. ltb 0 (load_on table m))) all;
      flow = flows;
      total = flows ∙ flow_total shop (placement (tally_of table));
    }
