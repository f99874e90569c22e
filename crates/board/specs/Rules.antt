-- What each call does to a tally.
use Rattle.std.specs.Prelude.{◌≡◌, ℕ, true, false, cond, ◌⊎◌, List, [], ◌∷◌, Some, None}
use Rattle.sets.specs.Sets.{numbers}
use Rattle.capability.specs.Meaning.{Meaning}
use Rattle.semimatching.specs.Placements.{stands_on}
use Rattle.table.specs.Tally.{Tally, Place, placement, seated, serving}
use Rattle.search.specs.Rules.{PlacedByRule, ShiftedByRule, NothingToShift}
use Rattle.board.specs.declared.call.Answer.{Answer}
use Rattle.board.specs.declared.call.Call.{Call}
use Rattle.board.specs.declared.call.Call.TheVariants.{Add, Done, Withdraw, Return}
use Rattle.board.specs.Records.{mill_in}

-- a finished ticket leaves its mill, and one chain to that mill is carried out if an improving one exists
pub record Finished (meaning : Meaning) (before : Tally) (ticket : ℕ) (after : Tally) : Type 0 where
  pub mill : ℕ
  pub stood : placement before ticket ≡ Some mill
  pub rule : ShiftedByRule meaning (seated before ticket None) mill after ⊎ (NothingToShift meaning (seated before ticket None) mill × (after ≡ seated before ticket None))

-- the tickets of a mill come off
abbrev pub cleared : Tally → ℕ → Tally
cleared tally mill = record { seat = λ t. cond (stands_on (placement tally t) mill) None (tally.seat t); service = tally.service }

-- tickets that stood are placed again, one after the other, by the rule of adding
pub data PlacedAgain (meaning : Meaning) (before : Tally) : List ℕ → Tally → Tally → Type 0 where
  all : {tally : Tally} → PlacedAgain meaning before [] tally tally
  next : {t : ℕ} {ts : List ℕ} {tally then after : Tally} (place : Place) (mill : ℕ) → before.seat t ≡ Some place → PlacedByRule meaning tally t place.program then mill → PlacedAgain meaning before ts then after → PlacedAgain meaning before (t ∷ ts) tally after

-- a withdrawn mill's tickets come off, it leaves service, and they are placed again in rising number
abbrev pub Withdrawn : Meaning → Tally → ℕ → Tally → Type 0
Withdrawn meaning before mill after = PlacedAgain meaning before (numbers (λ t. stands_on (placement before t) mill) 1024) (serving (cleared before mill) mill false) after

-- chains towards a mill are carried out while an improving one exists
pub data Settled (meaning : Meaning) (mill : ℕ) : Tally → Tally → Type 0 where
  none : {tally : Tally} → NothingToShift meaning tally mill → Settled meaning mill tally tally
  more : {tally then after : Tally} → ShiftedByRule meaning tally mill then → Settled meaning mill then after → Settled meaning mill tally after

-- a returned mill enters service empty, and then chains to it are carried out
abbrev pub Returned : Meaning → Tally → ℕ → Tally → Type 0
Returned meaning before mill after = Settled meaning mill (serving before mill true) after

-- the rule of each call
abbrev pub Ruled : Meaning → Call → Tally → Answer → Tally → Type 0
Ruled meaning (Add ticket program) before answer after = PlacedByRule meaning before ticket.0 program.0 after (mill_in answer)
Ruled meaning (Done ticket) before answer after = Finished meaning before ticket.0 after
Ruled meaning (Withdraw mill) before answer after = Withdrawn meaning before mill.0 after
Ruled meaning (Return mill) before answer after = Returned meaning before mill.0 after
