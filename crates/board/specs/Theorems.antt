-- What is proved of calls as a whole.
use Rattle.std.specs.Prelude.{◌≡◌, List, Result}
use Rattle.vocabulary.specs.declared.refusal.Refusal.{Refusal}
use Rattle.capability.specs.Meaning.{Meaning}
use Rattle.table.specs.Tally.{Tally}
use Rattle.board.specs.Outcomes.{Outcome}
use Rattle.board.specs.declared.call.Answer.{Answer}
use Rattle.board.specs.declared.call.Call.{Call}
use Rattle.board.specs.declared.moves.Move.{Move}

-- two outcomes of a call are the same
pub record Same (after after' : Tally) (answer answer' : Result Answer Refusal) (list list' : List Move) : Type 0 where
  pub one_tally : after ≡ after'
  pub one_answer : answer ≡ answer'
  pub one_list : list ≡ list'

-- a call has one outcome: the rules and the order of choice leave nothing open, so what a call does is a function of the tally,
-- the meaning, its arguments and its move list
abbrev pub OneOutcome : Type 0
OneOutcome = (meaning : Meaning) (call : Call) (before : Tally) (list : List Move) (after after' : Tally) (answer answer' : Result Answer Refusal) (list' list'' : List Move)
    → Outcome meaning call before after answer list list' → Outcome meaning call before after' answer' list list'' → Same after after' answer answer' list' list''
