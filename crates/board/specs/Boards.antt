-- What a board holds, and what a call does to it.
use Rattle.std.specs.Prelude.{◌≡◌, List, Result}
use Rattle.vocabulary.specs.declared.refusal.Refusal.{Refusal}
use Rattle.capability.specs.Meaning.{Meaning}
use Rattle.table.specs.Held.{meant, tally_of}
use Rattle.table.specs.Tally.{Tally}
use Rattle.board.specs.Outcomes.{Outcome}
use Rattle.board.specs.declared.board.Board.{Board}
use Rattle.board.specs.declared.call.Answer.{Answer}
use Rattle.board.specs.declared.call.Call.{Call}
use Rattle.board.specs.declared.moves.Move.{Move}

-- what its source meant when it was opened
abbrev pub meant_by : {S : Type 0} → Board S → Meaning
meant_by board = meant board.table

-- its tickets, their programs and mills, and the mills in service
abbrev pub tally_on : {S : Type 0} → Board S → Tally
tally_on board = tally_of board.table

-- a call with its answer and its move list before and after: the source and what it meant stay
pub record Called {S : Type 0} (before : Board S) (call : Call) (after : Board S) (answer : Result Answer Refusal) (list list' : List Move) : Type 0 where
  pub source : after.source ≡ before.source
  pub meaning : meant_by after ≡ meant_by before
  pub outcome : Outcome (meant_by before) call (tally_on before) (tally_on after) answer list list'
