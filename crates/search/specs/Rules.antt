-- The two rules by which a board moves tickets: one ticket is placed, or one chain is carried out towards a mill.
use Rattle.std.specs.Prelude.{◌≡◌, ℕ, cond, List, [], ◌∷◌, Some, ◌==◌}
use Rattle.std.specs.Option.{option_map}
use Rattle.capability.specs.Meaning.{Meaning}
use Rattle.semimatching.specs.Chains.{Step, Chain, Improving}
use Rattle.semimatching.specs.Choice.{Placing, Shifting}
use Rattle.semimatching.specs.Even.{Even}
use Rattle.semimatching.specs.Placements.{Shop}
use Rattle.semimatching.specs.Potentials.{Potential}
use Rattle.semimatching.specs.Prices.{position}
use Rattle.table.specs.Tally.{Tally, mill_for, mill_of, shop_in, placement, seated}

-- the shop with a ticket that is to be placed: its program is known, and it does not stand yet
abbrev pub shop_for : Meaning → Tally → ℕ → ℕ → Shop
shop_for meaning tally ticket program = record {
  tickets = 1024;
  mills = 64;
  can = λ t m. cond (t == ticket) (mill_for meaning tally.service program m) (mill_of meaning tally.service (tally.seat t) m);
}

-- a ticket goes to a mill and keeps its program
abbrev pub relocated : Tally → Step → Tally
relocated tally s = record {
  seat = λ t. cond (t == s.ticket) (option_map (λ place. record { program = place.program; mill = s.mill }) (tally.seat t)) (tally.seat t);
  service = tally.service;
}

-- a chain is carried out
abbrev pub carried_out : Tally → List Step → Tally
carried_out tally [] = tally
carried_out tally (s ∷ ss) = carried_out (relocated tally s) ss

-- a ticket was placed on a mill by the rule of adding
pub record PlacedByRule (meaning : Meaning) (before : Tally) (ticket program : ℕ) (after : Tally) (mill : ℕ) : Type 0 where
  pub steps : List Step
  pub last : ℕ
  pub choice : Placing (shop_for meaning before ticket program) (placement before) ticket mill steps last
  pub result : after ≡ carried_out (seated before ticket (Some (record { program = program; mill = mill }))) steps

-- a chain was carried out towards a mill by the rule of finishing and returning
pub record ShiftedByRule (meaning : Meaning) (before : Tally) (mill : ℕ) (after : Tally) : Type 0 where
  pub from : ℕ
  pub steps : List Step
  pub choice : Shifting (shop_in meaning before) (placement before) from steps mill
  pub result : after ≡ carried_out before steps

-- no improving chain leads to a mill
abbrev pub NothingToShift : Meaning → Tally → ℕ → Type 0
NothingToShift meaning tally mill = (from : ℕ) (steps : List Step) → Chain (shop_in meaning tally) (placement tally) from steps mill → Improving (shop_in meaning tally) (placement tally) from mill → ⊥

-- the tickets of a tally stand as evenly as they can
abbrev pub EvenIn : Meaning → Tally → Type 0
EvenIn meaning tally = Even (shop_in meaning tally) (placement tally)

-- they do but for a mill that could take more
abbrev pub Leaning : Meaning → Tally → ℕ → Type 0
Leaning meaning tally mill = Potential (shop_in meaning tally) position (placement tally) (λ m. m ≡ mill)
