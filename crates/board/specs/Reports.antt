-- What a report tells of a tally.
use Rattle.std.specs.Prelude.{◌≡◌, ℕ, ◌+◌, ◌*◌, ◌/◌}
use Rattle.capability.specs.Meaning.{Meaning}
use Rattle.semimatching.specs.Even.{highest_load, busy_mills}
use Rattle.semimatching.specs.Placements.{Shop, Placement, load}
use Rattle.semimatching.specs.Prices.{position, total}
use Rattle.semimatching.specs.Sums.{sum_to}
use Rattle.table.specs.Tally.{Tally, shop_in, placement}
use Rattle.board.specs.declared.report.Report.{Report}

-- what a mill of a load costs
abbrev pub mill_cost : ℕ → ℕ
mill_cost tickets = tickets * (tickets + 1) / 2

abbrev pub flow_time : Shop → Placement → ℕ
flow_time shop at = sum_to shop.mills (λ m. mill_cost (load shop at m))

pub record Reported (meaning : Meaning) (tally : Tally) (report : Report) : Type 0 where
  pub highest : report.highest_load ≡ highest_load (shop_in meaning tally) (placement tally)
  pub busy : report.busy_mills ≡ busy_mills (shop_in meaning tally) (placement tally)
  pub flow : report.flow_time ≡ flow_time (shop_in meaning tally) (placement tally)
  -- it is the total where the first ticket on a mill costs 1, the second 2, and so on
  pub total : report.flow_time ≡ total (shop_in meaning tally) position (placement tally)
