-- A board from its opening through any list of calls.
use Rattle.std.specs.Prelude.{◌≡◌, ℕ, Bool, false, not, ◌&&◌, ◌||◌, List, [], ◌∷◌, is_some, Ok, Err, Result, ◌==◌}
use Rattle.vocabulary.specs.declared.refusal.Refusal.{Refusal}
use Rattle.capability.specs.Meaning.{Meaning}
use Rattle.table.specs.Tally.{Tally, opening}
use Rattle.search.specs.Rules.{EvenIn}
use Rattle.board.specs.declared.call.Answer.{Answer}
use Rattle.board.specs.declared.call.Call.{Call}
use Rattle.board.specs.declared.call.Call.TheVariants.{Add, Done, Withdraw, Return}
use Rattle.board.specs.declared.moves.Move.{Move}
use Rattle.board.specs.Notes.{noted}
use Rattle.board.specs.Outcomes.{AllStand, Outcome}

-- one call of a run: what was asked, the move list before it, the answer, and the move list after it
pub record RunTurn : Type 0 where
  pub call : Call
  pub list : List Move
  pub answer : Result Answer Refusal
  pub list' : List Move

-- ---- the tally, from the calls' arguments, answers and records alone

abbrev pub noted_by : Tally → RunTurn → Tally
noted_by tally turn = noted tally turn.call turn.answer turn.list'

abbrev pub tally_after : Tally → List RunTurn → Tally
tally_after tally [] = tally
tally_after tally (turn ∷ later) = tally_after (noted_by tally turn) later

-- ---- the tickets that were accepted by an add and not finished by a done since

abbrev pub unfinished_by : Bool → Call → Result Answer Refusal → ℕ → Bool
unfinished_by was (Add ticket program) (Ok answer) t = t == ticket.0 || was
unfinished_by was (Done ticket) (Ok answer) t = not (t == ticket.0) && was
unfinished_by was (Withdraw mill) (Ok answer) t = was
unfinished_by was (Return mill) (Ok answer) t = was
unfinished_by was (Add ticket program) (Err refusal) t = was
unfinished_by was (Done ticket) (Err refusal) t = was
unfinished_by was (Withdraw mill) (Err refusal) t = was
unfinished_by was (Return mill) (Err refusal) t = was

abbrev pub unfinished : Bool → List RunTurn → ℕ → Bool
unfinished was [] t = was
unfinished was (turn ∷ later) t = unfinished (unfinished_by was turn.call turn.answer t) later t

-- ---- the law over a run

-- one turn, on the tally before it
pub record TurnBy (meaning : Meaning) (tally : Tally) (turn : RunTurn) : Type 0 where
  pub outcome : Outcome meaning turn.call tally (noted_by tally turn) turn.answer turn.list turn.list'
  pub even : EvenIn meaning (noted_by tally turn)

-- the turns one after the other, each on the tally that those before it left
abbrev pub TurnsBy : Meaning → Tally → List RunTurn → Type 0
TurnsBy meaning tally [] = Unit {0}
TurnsBy meaning tally (turn ∷ later) = TurnBy meaning tally turn × TurnsBy meaning (noted_by tally turn) later

-- a board that was opened on a source of this meaning, after any list of calls
pub record HasRun (meaning : Meaning) (turns : List RunTurn) (board : Tally) : Type 0 where
  -- board and tally agree
  pub agrees : board ≡ tally_after (opening meaning) turns
  -- the tickets standing are those accepted by an add and not finished by a done since
  pub standing : (t : ℕ) → is_some (board.seat t) ≡ unfinished false turns t
  -- each is on a mill that is able for its program and in service
  pub able : AllStand meaning board
  -- each call was refused for its first cause and changed nothing, or had no cause and did what its rule says
  pub each : TurnsBy meaning (opening meaning) turns
  -- no other placement of these tickets is better
  pub even : EvenIn meaning board
