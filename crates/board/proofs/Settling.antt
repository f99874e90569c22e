-- Chains to a mill are carried out while an improving one exists.
use Rattle.std.proofs.Common.{◌≡◌, ℕ, ◌+◌, ◌-◌, ◌<◌, Bool, true, false, sym, ap, ◌∙◌, subst, arith}
use Rattle.capability.specs.Meaning.{Meaning}
use Rattle.semimatching.specs.Placements.{load}
use Rattle.semimatching.proofs.Carrying.{carried_last}
use Rattle.table.specs.Held.{meant, tally_of}
use Rattle.table.specs.Tally.{Tally, shop_in, placement}
use Rattle.table.specs.declared.table.Table.{Table}
use Rattle.table.proofs.TableLaws.{load_few}
use Rattle.search.specs.Rules.{ShiftedByRule, NothingToShift, Leaning}
use Rattle.search.specs.Shifts.{Shift}
use Rattle.board.specs.Rules.{Settled, none, more}
use Rattle.board.proofs.FewMoves.{shop_shifted, placement_shifted}

-- how many tickets stand on a mill
abbrev pub load_on : Table → ℕ → ℕ
load_on table mill = load (shop_in (meant table) (tally_of table)) (placement (tally_of table)) mill

-- some chains to a mill have been carried out: whatever settles the rest settles the whole
pub record Settling (start : Table) (mill : ℕ) (table : Table) : Type 0 where
  pub meaning : meant table ≡ meant start
  pub so_far : (after : Tally) → Settled (meant start) mill (tally_of table) after → Settled (meant start) mill (tally_of start) after
  pub leans : Leaning (meant start) (tally_of start) mill → Leaning (meant table) (tally_of table) mill

-- a chain raises the load of its last mill
shifted_load : {meaning : Meaning} {before after : Tally} {mill : ℕ} → ShiftedByRule meaning before mill after
    → load (shop_in meaning after) (placement after) mill ≡ load (shop_in meaning before) (placement before) mill + 1
shifted_load {meaning} {before} {after} {mill} rule =
    let improves = rule.choice.improves in
    let apart : rule.from ≡ mill → ⊥ = λ e. omega (arith, ap (load (shop_in meaning before) (placement before)) e) in
    (λ i. load (shop_shifted rule i) (placement_shifted rule i) mill)
    ∙ carried_last (shop_in meaning before) (placement before) rule.from rule.steps mill rule.choice.chain apart

module _ (start : Table) (mill : ℕ) (table : Table) (so : Settling start mill table) (done : Bool) (after : Table) (step : Shift table mill done after) where
  -- one chain more

  module _ (is : done ≡ true) where
    pub settling_more : Settling start mill after
    settling_more = record {
      meaning = step.meaning ∙ so.meaning;
      so_far = λ last rest. so.so_far last (more (subst (λ meaning. ShiftedByRule meaning (tally_of table) mill (tally_of after)) so.meaning (step.shifted is)) rest);
      leans = λ lean. step.leans is (so.leans lean);
    }

    pub settling_falls : 1024 - load_on after mill < 1024 - load_on table mill
    settling_falls =
        let up = ap (λ meaning. load (shop_in meaning (tally_of after)) (placement (tally_of after)) mill) step.meaning ∙ shifted_load (step.shifted is) in
        omega (arith, up, load_few after mill)

  -- no chain is left

  module _ (is : done ≡ false) where
    pub settled_all : Settled (meant start) mill (tally_of start) (tally_of after)
    settled_all =
        let still = step.nothing is in
        subst (Settled (meant start) mill (tally_of start)) (sym still.0)
        (so.so_far (tally_of table) (none (subst (λ meaning. NothingToShift meaning (tally_of table) mill) so.meaning still.1)))
