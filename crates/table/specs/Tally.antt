-- The tally: for each ticket nothing, or its program and its mill; and the set of mills in service.
use Rattle.std.specs.Prelude.{ℕ, Bool, false, cond, ◌&&◌, is_some, Some, None, Option, ◌==◌, nat_lt}
use Rattle.std.specs.Option.{option_map}
use Rattle.capability.specs.Meaning.{Meaning}
use Rattle.semimatching.specs.Placements.{Shop, Placement}
use Rattle.semimatching.specs.Sums.{count_to}

-- where a ticket stands, and what is to be cut
pub record Place : Type 0 where
  pub program : ℕ
  pub mill : ℕ

pub record Tally : Type 0 where
  pub seat : ℕ → Option Place
  pub service : ℕ → Bool

-- at the opening no ticket stands, and every mill below the count is in service
abbrev pub opening : Meaning → Tally
opening meaning = record { seat = λ _. None; service = λ m. nat_lt m meaning.mills }

-- the mills that a program may be cut on: able and in service
abbrev pub mill_for : Meaning → (ℕ → Bool) → ℕ → ℕ → Bool
mill_for meaning service program mill = meaning.able program mill && service mill

-- the mills of a ticket: those of its program, where it stands
abbrev pub mill_of : Meaning → (ℕ → Bool) → Option Place → ℕ → Bool
mill_of meaning service None mill = false
mill_of meaning service (Some place) mill = mill_for meaning service place.program mill

-- 1,024 tickets and 64 mills
abbrev pub shop_in : Meaning → Tally → Shop
shop_in meaning tally = record { tickets = 1024; mills = 64; can = λ t m. mill_of meaning tally.service (tally.seat t) m }

abbrev pub placement : Tally → Placement
placement tally t = option_map (λ place. place.mill) (tally.seat t)

-- how many tickets stand
abbrev pub standing : Tally → ℕ
standing tally = count_to 1024 (λ t. is_some (tally.seat t))

-- a ticket seated at a place, or taken off
abbrev pub seated : Tally → ℕ → Option Place → Tally
seated tally ticket place = record { seat = λ t. cond (t == ticket) place (tally.seat t); service = tally.service }

-- a mill put into service or taken out
abbrev pub serving : Tally → ℕ → Bool → Tally
serving tally mill serves = record { seat = tally.seat; service = λ m. cond (m == mill) serves (tally.service m) }
