-- What is true of every table.
use Rattle.std.proofs.Common.{◌≡◌, ℕ, ◌<◌, ◌≤◌, true, Some, None, ap, ⊎_elim, arith}
use Rattle.std.specs.Option.{option_map}
use Rattle.std.proofs.lemmas.List.{get_or_past}
use Rattle.std.proofs.lemmas.Bool.{cases_lt}
use Rattle.semimatching.specs.Placements.{SemiMatching, stands_on, load}
use Rattle.semimatching.proofs.Loads.{load_empty}
use Rattle.semimatching.proofs.Sums.{count_le}
use Rattle.table.specs.declared.table.Table.{Table}
use Rattle.table.specs.Tally.{Place, placement, shop_in}
use Rattle.table.specs.Seats.{place_of}
use Rattle.table.specs.Held.{meant, tally_of}
use Rattle.table.proofs.TallyLaws.{able_served}

module _ (table : Table) where
  -- a mill in service is below 64, since there are at most 64 mills
  pub service_few : (m : ℕ) → (tally_of table).service m ≡ true → m < 64
  service_few m serves = omega (arith, table.below m serves, table.abilities.lawful.few)

  -- no ticket from 1,024 on stands
  pub seat_past : (t : ℕ) → 1024 ≤ t → (tally_of table).seat t ≡ None
  seat_past t past = ap (option_map place_of) (get_or_past table.seats t None (omega (arith, table.whole)))

  pub placement_past : (t : ℕ) → 1024 ≤ t → placement (tally_of table) t ≡ None
  placement_past t past = ap (option_map (λ place. place.mill)) (seat_past t past)

  pub stands_few : (t : ℕ) (place : Place) → (tally_of table).seat t ≡ Some place → t < 1024
  stands_few t place at =
      ⊎_elim (λ (low : t < 1024). low) (λ (past : 1024 ≤ t). let none = seat_past t past in let z : ◌≡◌ {A = ℕ} 0 1 = cc in absurd (omega arith)) (cases_lt t 1024)

  pub placed_few : (t m : ℕ) → placement (tally_of table) t ≡ Some m → t < 1024
  placed_few t m on =
      ⊎_elim (λ (low : t < 1024). low) (λ (past : 1024 ≤ t). let none = placement_past t past in let z : ◌≡◌ {A = ℕ} 0 1 = cc in absurd (omega arith)) (cases_lt t 1024)

  -- every standing ticket is on a mill in service, below 64 and able for its program
  pub placed_served : (t m : ℕ) → placement (tally_of table) t ≡ Some m → (tally_of table).service m ≡ true
  placed_served t m on = able_served (meant table) (tally_of table) table.able t m on

  pub semi : SemiMatching (shop_in (meant table) (tally_of table)) (placement (tally_of table))
  semi t m exists on = (service_few m (placed_served t m on), table.able t m on)

  -- no ticket is on a mill from 64 on
  pub load_past : (m : ℕ) → 64 ≤ m → load (shop_in (meant table) (tally_of table)) (placement (tally_of table)) m ≡ 0
  load_past m past =
      load_empty (shop_in (meant table) (tally_of table)) (placement (tally_of table)) m (λ t exists on. omega (arith, service_few m (placed_served t m on)))

  -- at most 1,024 tickets are on a mill
  pub load_few : (m : ℕ) → load (shop_in (meant table) (tally_of table)) (placement (tally_of table)) m ≤ 1024
  load_few m = count_le 1024 (λ t. stands_on (placement (tally_of table) t) m)
