-- The outcome of a call: it was accepted and did what its rule says, or it was sent back.
use Rattle.std.specs.Prelude.{◌≡◌, ℕ, ◌<◌, true, List, ◌++◌, length, drop, Some, Ok, Err, Result}
use Rattle.vocabulary.specs.declared.refusal.Refusal.{Refusal}
use Rattle.capability.specs.Meaning.{Meaning}
use Rattle.table.specs.Tally.{Place, Tally}
use Rattle.search.specs.Rules.{EvenIn}
use Rattle.board.specs.declared.call.Answer.{Answer}
use Rattle.board.specs.declared.call.Call.{Call}
use Rattle.board.specs.declared.moves.Move.{Move}
use Rattle.board.specs.Causes.{Accepted, Refused}
use Rattle.board.specs.Notes.{mill_told, noted}
use Rattle.board.specs.Records.{records_of, count_in}
use Rattle.board.specs.Rulings.{Ruling}
use Rattle.board.specs.Turns.{Few}

-- a ticket at a place: the ticket exists, and the mill is able for its program and in service
pub record Stands (meaning : Meaning) (tally : Tally) (ticket : ℕ) (place : Place) : Type 0 where
  pub exists : ticket < 1024
  pub able : meaning.able place.program place.mill ≡ true
  pub serves : tally.service place.mill ≡ true

-- every standing ticket stands so
abbrev pub AllStand : Meaning → Tally → Type 0
AllStand meaning tally = (t : ℕ) (place : Place) → tally.seat t ≡ Some place → Stands meaning tally t place

-- an accepted call: it had no cause, it did what its rule says, it wrote the records and told their number,
-- the tally worked out from these is the board's, and an even board stays even
pub record Fulfilled (meaning : Meaning) (call : Call) (before after : Tally) (answer : Answer) (list list' : List Move) : Type 0 where
  pub accepted : Accepted meaning before (length list) call
  pub rule : Ruling meaning call before (mill_told answer) after
  pub written : list' ≡ records_of before after ++ drop (length (records_of before after)) list
  pub counted : count_in answer ≡ length (records_of before after)
  pub few : Few call before (count_in answer)
  pub agrees : after ≡ noted before call (Ok answer) list'
  pub able : AllStand meaning after
  pub stays_even : EvenIn meaning before → EvenIn meaning after

-- a refused call: it had a cause, and the one of the smallest number is told; it changed neither board nor list
pub record SentBack (meaning : Meaning) (call : Call) (before after : Tally) (refusal : Refusal) (list list' : List Move) : Type 0 where
  pub refused : Refused meaning before (length list) call refusal
  pub unchanged : after ≡ before
  pub untouched : list' ≡ list

-- a call, by its answer
abbrev pub Outcome : Meaning → Call → Tally → Tally → Result Answer Refusal → List Move → List Move → Type 0
Outcome meaning call before after (Ok answer) list list' = Fulfilled meaning call before after answer list list'
Outcome meaning call before after (Err refusal) list list' = SentBack meaning call before after refusal list list'
