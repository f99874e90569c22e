-- What a shift towards a mill does.
use Rattle.std.specs.Prelude.{◌≡◌, ℕ, ◌+◌, ◌≤◌, Bool, true, false}
use Rattle.semimatching.specs.Placements.{load}
use Rattle.table.specs.Held.{meant, tally_of}
use Rattle.table.specs.Tally.{shop_in, placement}
use Rattle.table.specs.declared.table.Table.{Table}
use Rattle.search.specs.Rules.{ShiftedByRule, NothingToShift, EvenIn, Leaning}

pub record Shift (before : Table) (mill : ℕ) (done : Bool) (after : Table) : Type 0 where
  pub meaning : meant after ≡ meant before
  -- a chain was carried out by the rule, or there is none to carry out
  pub shifted : done ≡ true → ShiftedByRule (meant before) (tally_of before) mill (tally_of after)
  pub nothing : done ≡ false → (tally_of after ≡ tally_of before) × NothingToShift (meant before) (tally_of before) mill
  -- where the tickets stand evenly but for the mill, they do so after each shift, and evenly when there is none left
  pub leans : done ≡ true → Leaning (meant before) (tally_of before) mill → Leaning (meant after) (tally_of after) mill
  pub settles : done ≡ false → Leaning (meant before) (tally_of before) mill → EvenIn (meant after) (tally_of after)
  -- one shift is enough where the mill could take one ticket more
  pub once : done ≡ true → (lean : Leaning (meant before) (tally_of before) mill) → lean.level mill ≤ load (shop_in (meant before) (tally_of before)) (placement (tally_of before)) mill + 2 → EvenIn (meant after) (tally_of after)
