-- The six calls of the worked run, one after the other.
use Rattle.std.proofs.Common.{◌≡◌, ℕ, suc, ◌≤◌, List, [], ◌∷◌, map, length, get_or, take, drop, Ok, Err, Result, ap, ◌∙◌, subst, ap₂}
use Rattle.vocabulary.specs.declared.refusal.Refusal.{Refusal}
use Rattle.vocabulary.specs.declared.refusal.Refusal.TheVariants.{Stranded}
use Rattle.table.specs.Tally.{Tally, opening}
use Rattle.board.specs.declared.call.Answer.{Answer}
use Rattle.board.specs.declared.call.Answer.TheVariants.{Added, Moved}
use Rattle.board.specs.declared.call.Call.{Call}
use Rattle.board.specs.declared.call.Call.TheVariants.{Withdraw, Return}
use Rattle.board.specs.declared.moves.Move.{Move}
use Rattle.board.specs.Histories.{RunTurn, noted_by, TurnsBy}
use Rattle.board.specs.Outcomes.{Outcome}
use Rattle.cases.specs.WorkedRun.{worked, mill, ticket, adding, moving, worked_calls, worked_answers, WorkedRun}
use Rattle.cases.proofs.FirstTurn.{calls_of, Room, First, first_of, none_left}
use Rattle.cases.proofs.MillAway.{mill_goes}
use Rattle.cases.proofs.TicketsCome.{first_comes, second_comes, third_comes}
use Rattle.cases.proofs.MillBack.{Back, mill_back}
use Rattle.cases.proofs.MillHeld.{mill_held}
use Rattle.cases.proofs.WorkedShop.{away, with5, with6, with7}

abbrev answers_of : List RunTurn → List (Result Answer Refusal)
answers_of turns = map (λ turn. turn.answer) turns

-- the move list after the turn at a place
abbrev list_at : ℕ → List RunTurn → List Move
list_at place turns = get_or (map (λ turn. turn.list') turns) place []

-- the turns from some on: their answers, and where among them the two records are
record Told (answers : List (Result Answer Refusal)) (place : ℕ) (turns : List RunTurn) : Type 0 where
  all : answers_of turns ≡ answers
  records : take 2 (list_at place turns) ≡ moving 5 1 2 ∷ moving 6 0 1 ∷ []

abbrev GoesOn : Tally → List Call → List (Result Answer Refusal) → ℕ → Type 0
GoesOn tally calls answers place = (turns : List RunTurn) → TurnsBy worked tally turns → calls_of turns ≡ calls → Room 3 turns → Told answers place turns

-- ---- one call, and then the others

abbrev Goes : Tally → Call → Result Answer Refusal → Tally → Type 0
Goes tally call answer then =
    (after : Tally) (given : Result Answer Refusal) (list list' : List Move) → 3 ≤ length list → Outcome worked call tally after given list list' → (given ≡ answer) × (after ≡ then)

module _ (tally then : Tally) (call : Call) (calls : List Call) (answer : Result Answer Refusal) (answers : List (Result Answer Refusal)) (place : ℕ)
    (goes : Goes tally call answer then) (later : GoesOn then calls answers place) where
  first_then : (turns : List RunTurn) → First worked tally 3 call calls turns → Told (answer ∷ answers) (suc place) turns
  first_then turns f =
      let did = goes (noted_by tally f.turn) f.turn.answer f.turn.list f.turn.list' f.room_first f.outcome in
      let rest = later f.later (subst (λ left. TurnsBy worked left f.later) did.1 f.each) f.calls_later f.room_later in record {
        all = ap answers_of f.is ∙ ap₂ ◌∷◌ did.0 rest.all;
        records = ap (λ l. take 2 (list_at (suc place) l)) f.is ∙ rest.records;
      }

  and_then : GoesOn tally (call ∷ calls) (answer ∷ answers) (suc place)
  and_then turns each are rooms = first_then turns (first_of worked tally 3 call calls turns each are rooms)

-- ---- the last two calls

last_one : (tally : Tally) (list : List Move) (turns : List RunTurn) → Back tally (Ok (Moved 2)) list → First worked tally 3 (Withdraw (mill 0)) [] turns
    → answers_of turns ≡ Err (Stranded (ticket 7)) ∷ []
last_one tally list turns back f =
    ap answers_of f.is
    ∙ ap₂ ◌∷◌
    (mill_held tally back.serves_0 back.holds back.alone (noted_by tally f.turn) f.turn.answer f.turn.list f.turn.list' f.outcome)
    (ap answers_of (none_left f.later f.calls_later))

last_two : GoesOn with7 (drop 4 worked_calls) (drop 4 worked_answers) 0
last_two turns each are rooms = go (first_of worked with7 3 (Return (mill 2)) (drop 5 worked_calls) turns each are rooms)
  where
    go : First worked with7 3 (Return (mill 2)) (drop 5 worked_calls) turns → Told (drop 4 worked_answers) 0 turns
    go f =
        let list = f.turn.list' in
        let then = noted_by with7 f.turn in
        let back = mill_back then f.turn.answer f.turn.list list f.room_first f.even f.outcome in
        let last = first_of worked then 3 (Withdraw (mill 0)) [] f.later f.each f.calls_later f.room_later in record {
          all = ap answers_of f.is ∙ ap₂ ◌∷◌ back.told (last_one then list f.later (subst (λ a. Back then a list) back.told back) last);
          records = ap (λ l. take 2 (list_at 0 l)) f.is ∙ back.written;
        }

-- ---- all six

-- from ticket 7 on, from ticket 6 on, and from ticket 5 on
from_7 : GoesOn with6 (drop 3 worked_calls) (drop 3 worked_answers) 1
from_7 = and_then with6 with7 (adding 7 1) (drop 4 worked_calls) (Ok (Added (mill 0) 0)) (drop 4 worked_answers) 0 third_comes last_two

from_6 : GoesOn with5 (drop 2 worked_calls) (drop 2 worked_answers) 2
from_6 = and_then with5 with6 (adding 6 2) (drop 3 worked_calls) (Ok (Added (mill 0) 0)) (drop 3 worked_answers) 1 second_comes from_7

from_5 : GoesOn away (drop 1 worked_calls) (drop 1 worked_answers) 3
from_5 = and_then away with5 (adding 5 3) (drop 2 worked_calls) (Ok (Added (mill 1) 0)) (drop 2 worked_answers) 2 first_comes from_6

pub worked_run : WorkedRun
worked_run turns board ran calls rooms =
    let told = and_then (opening worked) away (Withdraw (mill 2)) (drop 1 worked_calls) (Ok (Moved 0)) (drop 1 worked_answers) 3 mill_goes from_5 turns ran.each calls rooms in
    record { answers = told.all; records = told.records }
