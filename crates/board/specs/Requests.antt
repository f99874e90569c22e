-- Requests, as they were asked and as they are answered.
use Rattle.std.specs.Prelude.{◌≡◌, List, [], ◌∷◌, map, vec_items}
use Rattle.capability.specs.Meaning.{Meaning}
use Rattle.table.specs.Tally.{Tally}
use Rattle.board.specs.Histories.{RunTurn, HasRun}
use Rattle.board.specs.Outcomes.{Outcome}
use Rattle.board.specs.declared.call.Call.{Call}
use Rattle.board.specs.declared.request.Request.{Request}

abbrev pub calls_of : List Request → List Call
calls_of requests = map (λ request. request.call) requests

abbrev pub turn_of : Request → Request → RunTurn
turn_of asked answered = record { call = asked.call; list = vec_items asked.moves; answer = answered.answer; list' = vec_items answered.moves }

-- one turn for each request
abbrev pub turns_of : List Request → List Request → List RunTurn
turns_of [] answered = []
turns_of (asked ∷ rest) [] = []
turns_of (asked ∷ rest) (answered ∷ later) = turn_of asked answered ∷ turns_of rest later

-- one request, on a board with one tally before it and another after it
pub record Asked (meaning : Meaning) (before : Tally) (asked answered : Request) (after : Tally) : Type 0 where
  pub call : answered.call ≡ asked.call
  pub outcome : Outcome meaning asked.call before after answered.answer (vec_items asked.moves) (vec_items answered.moves)

-- a board that was opened on a source of this meaning, after all requests in turn: each request keeps its call, and their turns are a run
pub record RanRequests (meaning : Meaning) (asked answered : List Request) (board : Tally) : Type 0 where
  pub calls : calls_of answered ≡ calls_of asked
  pub ran : HasRun meaning (turns_of asked answered) board
