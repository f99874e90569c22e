-- No chain improves between loads of 2 and 1, and loads of 2, 1, 0 cost one more than loads of 1, 1, 1.
use Rattle.std.proofs.Common.{◌≡◌, ℕ, ◌+◌, ap, ◌∙◌, arith}
use Rattle.semimatching.specs.Placements.{Shop, Placement, load}
use Rattle.semimatching.specs.Prices.{cost, position}
use Rattle.semimatching.specs.Sums.{sum_to}
use Rattle.board.specs.Reports.{mill_cost}
use Rattle.cases.specs.Loads.{NoneImproves, Loaded, Costs}

pub none_improves : NoneImproves
none_improves shop at v w two one = (λ better. omega arith, λ better. omega arith)

-- a mill of this load costs the sum of the numbers up to it
abbrev priced : ℕ → ℕ
priced n = cost position 0 n

-- what three mills cost together, whatever a mill of a load costs
three : (of : ℕ → ℕ) (shop : Shop) (at : Placement) (a b c : ℕ) → Loaded shop at a b c → sum_to shop.mills (λ m. of (load shop at m)) ≡ of a + of b + of c
unfolding sum_to
three of shop at a b c is =
    ap (λ n. sum_to n (λ m. of (load shop at m))) is.three
    ∙ omega (arith, ap of is.on_first, ap of is.on_second, ap of is.on_third)

pub costs : Costs
unfolding sum_to
costs shop at = (λ is. (three mill_cost shop at 2 1 0 is, three priced shop at 2 1 0 is), λ is. (three mill_cost shop at 1 1 1 is, three priced shop at 1 1 1 is))
