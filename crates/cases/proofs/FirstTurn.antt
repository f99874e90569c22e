-- The first turn of a run, and the rest.
use Rattle.std.proofs.Common.{◌≡◌, ℕ, ◌≤◌, List, [], ◌∷◌, map, length, refl, ap, subst, arith}
use Rattle.std.specs.List.{AllByRecursion as All}
use Rattle.capability.specs.Meaning.{Meaning}
use Rattle.table.specs.Tally.{Tally}
use Rattle.search.specs.Rules.{EvenIn}
use Rattle.board.specs.declared.call.Call.{Call}
use Rattle.board.specs.Histories.{RunTurn, noted_by, TurnsBy}
use Rattle.board.specs.Outcomes.{Outcome}

abbrev pub calls_of : List RunTurn → List Call
calls_of turns = map (λ turn. turn.call) turns

-- every move list has room for so many records
abbrev pub Room : ℕ → List RunTurn → Type 0
Room n turns = All (λ turn. n ≤ length turn.list) turns

-- the first of the turns of a run, and those behind it
pub record First (meaning : Meaning) (tally : Tally) (room : ℕ) (call : Call) (calls : List Call) (turns : List RunTurn) : Type 0 where
  pub turn : RunTurn
  pub later : List RunTurn
  pub is : turns ≡ turn ∷ later
  pub outcome : Outcome meaning call tally (noted_by tally turn) turn.answer turn.list turn.list'
  pub even : EvenIn meaning (noted_by tally turn)
  pub room_first : room ≤ length turn.list
  pub each : TurnsBy meaning (noted_by tally turn) later
  pub calls_later : calls_of later ≡ calls
  pub room_later : Room room later

pub first_of : (meaning : Meaning) (tally : Tally) (room : ℕ) (call : Call) (calls : List Call) (turns : List RunTurn)
    → TurnsBy meaning tally turns → calls_of turns ≡ call ∷ calls → Room room turns → First meaning tally room call calls turns
first_of meaning tally room call calls [] each are rooms = absurd (omega (arith, ap length are))
first_of meaning tally room call calls (turn ∷ later) each are rooms = record {
  turn = turn;
  later = later;
  is = refl;
  outcome = subst (λ c. Outcome meaning c tally (noted_by tally turn) turn.answer turn.list turn.list') (cc) each.0.outcome;
  even = each.0.even;
  room_first = rooms.0;
  each = each.1;
  calls_later = cc;
  room_later = rooms.1;
}

pub none_left : (turns : List RunTurn) → calls_of turns ≡ [] → turns ≡ []
none_left [] are = refl
none_left (turn ∷ later) are = absurd (omega (arith, ap length are))
