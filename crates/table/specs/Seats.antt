-- The tally that a table's seats and service make.
use Rattle.std.specs.Prelude.{ℕ, cond, List, None, Option, slice_index_or}
use Rattle.std.specs.Option.{option_map}
use Rattle.sets.specs.Sets.{has}
use Rattle.sets.specs.declared.number_set.NumberSet.{NumberSet}
use Rattle.semimatching.specs.Placements.{stands_on}
use Rattle.semimatching.specs.Sums.{count_to}
use Rattle.table.specs.declared.seat.Seat.{Seat}
use Rattle.table.specs.Tally.{Place, Tally, placement}

abbrev pub place_of : Seat → Place
place_of seat = record { program = seat.program.0; mill = seat.mill.0 }

abbrev pub tally_from : List (Option Seat) → NumberSet → Tally
tally_from seats service = record { seat = λ t. option_map place_of (slice_index_or seats t None); service = has service }

-- the number of tickets on a mill
abbrev pub on_mill : List (Option Seat) → NumberSet → ℕ → ℕ
on_mill seats service mill = count_to 1024 (λ t. stands_on (placement (tally_from seats service) t) mill)

-- 1 on the mill of a seat, and 0 on any other
abbrev pub share_of : Option Seat → ℕ → ℕ
share_of seat mill = cond (stands_on (option_map (λ place. place.mill) (option_map place_of seat)) mill) 1 0
