-- A shop of three mills, six calls in it, and what they answer.
use Rattle.std.specs.Prelude.{◌≡◌, ℕ, ◌≤◌, false, cond, ◌||◌, List, [], ◌∷◌, map, length, take, Ok, Err, Result, ◌==◌, slice_index_or}
use Rattle.std.specs.List.{AllByRecursion}
use Rattle.vocabulary.specs.declared.numbers.Mill.{Mill}
use Rattle.vocabulary.specs.declared.numbers.Ticket.{Ticket}
use Rattle.vocabulary.specs.declared.refusal.Refusal.{Refusal}
use Rattle.vocabulary.specs.declared.refusal.Refusal.TheVariants.{Stranded}
use Rattle.capability.specs.Meaning.{Meaning}
use Rattle.table.specs.Tally.{Tally}
use Rattle.board.specs.declared.call.Answer.{Answer}
use Rattle.board.specs.declared.call.Answer.TheVariants.{Added, Moved}
use Rattle.board.specs.declared.call.Call.{Call}
use Rattle.board.specs.declared.call.Call.TheVariants.{Add, Withdraw, Return}
use Rattle.board.specs.declared.moves.Move.{Move}
use Rattle.board.specs.Histories.{RunTurn, HasRun}

-- program 1 can be cut on mill 0, program 2 on mills 0 and 1, program 3 on mills 1 and 2, and nothing else
abbrev pub worked : Meaning
worked = record {
  mills = 3;
  able = λ p m. cond (p == 1) (m == 0) (cond (p == 2) (m == 0 || m == 1) (cond (p == 3) (m == 1 || m == 2) false));
}

-- the mill and the ticket of a number
abbrev pub mill : ℕ → Mill
mill n = record { 0 = n }

abbrev pub ticket : ℕ → Ticket
ticket n = record { 0 = n }

-- a ticket comes, with its program
abbrev pub adding : ℕ → ℕ → Call
adding t p = Add (ticket t) (record { 0 = p })

-- mill 2 is away while three tickets come, and comes back; then mill 0 is to go
abbrev pub worked_calls : List Call
worked_calls = Withdraw (mill 2) ∷ adding 5 3 ∷ adding 6 2 ∷ adding 7 1 ∷ Return (mill 2) ∷ Withdraw (mill 0) ∷ []

-- two tickets move when mill 2 is back, and ticket 7 holds mill 0
abbrev pub worked_answers : List (Result Answer Refusal)
worked_answers = Ok (Moved 0) ∷ Ok (Added (mill 1) 0) ∷ Ok (Added (mill 0) 0) ∷ Ok (Added (mill 0) 0) ∷ Ok (Moved 2) ∷ Err (Stranded (ticket 7)) ∷ []

-- the record of a ticket that goes from a mill to another
abbrev pub moving : ℕ → ℕ → ℕ → Move
moving t from to = record { ticket = ticket t; from = mill from; to = mill to }

-- what the six calls answer, and what the fifth has written to its move list
pub record Worked (turns : List RunTurn) : Type 0 where
  pub answers : map (λ turn. turn.answer) turns ≡ worked_answers
  pub records : take 2 (slice_index_or (map (λ turn. turn.list') turns) 4 []) ≡ moving 5 1 2 ∷ moving 6 0 1 ∷ []

-- so it is in every run of these calls, where each move list has room for three
abbrev pub WorkedRun : Type 0
WorkedRun = (turns : List RunTurn) (board : Tally) → HasRun worked turns board → map (λ turn. turn.call) turns ≡ worked_calls → AllByRecursion (λ turn. 3 ≤ length turn.list) turns → Worked turns
