-- Calls are performed in turn: what holds of a run holds after one call more.
use Rattle.std.proofs.Common.{◌≡◌, ℕ, Bool, true, false, cond, not, ◌&&◌, ◌||◌, eqb, List, [], ◌∷◌, ◌++◌, take, is_some, Some, None, Ok, Err, Option, Result, sym, refl, ap, ◌∙◌, subst, arith}
use Rattle.std.specs.Option.{option_map}
use Rattle.vocabulary.specs.declared.refusal.Refusal.{Refusal}
use Rattle.capability.specs.Meaning.{Meaning}
use Rattle.table.specs.Tally.{Place, Tally, opening}
use Rattle.search.specs.Rules.{relocated, EvenIn}
use Rattle.board.specs.Notes.{noted}
use Rattle.board.specs.Records.{moved_by, count_in}
use Rattle.board.specs.Histories.{RunTurn, noted_by, tally_after, unfinished_by, unfinished, TurnBy, TurnsBy, HasRun}
use Rattle.board.specs.Outcomes.{AllStand, Outcome}
use Rattle.board.specs.declared.call.Answer.{Answer}
use Rattle.board.specs.declared.call.Answer.TheVariants.{Added, Moved}
use Rattle.board.specs.declared.call.Call.{Call}
use Rattle.board.specs.declared.call.Call.TheVariants.{Add, Done, Withdraw, Return}
use Rattle.board.specs.declared.moves.Move.{Move}
use Rattle.board.proofs.EvenCalls.{even_opening}

-- ---- one call

outcome_noted : (meaning : Meaning) (call : Call) (before after : Tally) (answer : Result Answer Refusal) (list list' : List Move) → Outcome meaning call before after answer list list'
    → after ≡ noted before call answer list'
outcome_noted meaning call before after (Ok answer) list list' done = done.agrees
outcome_noted meaning call before after (Err refusal) list list' back = back.unchanged

outcome_even : (meaning : Meaning) (call : Call) (before after : Tally) (answer : Result Answer Refusal) (list list' : List Move) → Outcome meaning call before after answer list list'
    → EvenIn meaning before → EvenIn meaning after
outcome_even meaning call before after (Ok answer) list list' done = done.stays_even
outcome_even meaning call before after (Err refusal) list list' back = subst (EvenIn meaning) (sym back.unchanged)

outcome_able : (meaning : Meaning) (call : Call) (before after : Tally) (answer : Result Answer Refusal) (list list' : List Move) → Outcome meaning call before after answer list list'
    → AllStand meaning before → AllStand meaning after
outcome_able meaning call before after (Ok answer) list list' done able = done.able
outcome_able meaning call before after (Err refusal) list list' back able = subst (AllStand meaning) (sym back.unchanged) able

-- records move tickets, and none comes or goes by them
moved_stands : (tally : Tally) (rs : List Move) (t : ℕ) → is_some ((moved_by tally rs).seat t) ≡ is_some (tally.seat t)
moved_stands tally [] t = refl
moved_stands tally (r ∷ rs) t =
    moved_stands (relocated tally (record { ticket = r.ticket.0; mill = r.to.0 })) rs t ∙ go (eqb t r.ticket.0) (tally.seat t)
  where
    go : (here : Bool) (seat : Option Place) → is_some (cond here (option_map (λ place. record { program = place.program; mill = r.to.0 }) seat) seat) ≡ is_some seat
    go true None = refl
    go true (Some place) = refl
    go false seat = refl

some_cond : (here : Bool) (place : Place) (seat : Option Place) → is_some (cond here (Some place) seat) ≡ (here || is_some seat)
some_cond true place seat = refl
some_cond false place seat = refl

none_cond : (here : Bool) (seat : Option Place) → is_some (cond here None seat) ≡ (not here && is_some seat)
none_cond true seat = refl
none_cond false seat = refl

noted_stands : (meaning : Meaning) (call : Call) (before after : Tally) (answer : Result Answer Refusal) (list list' : List Move) → Outcome meaning call before after answer list list'
    → (t : ℕ) → is_some ((noted before call answer list').seat t) ≡ unfinished_by (is_some (before.seat t)) call answer t
noted_stands meaning (Add ticket program) before after (Ok (Added mill count)) list list' done t =
    some_cond (eqb t ticket.0) _ _ ∙ ap (λ b. eqb t ticket.0 || b) (moved_stands before (take count list') t)
noted_stands meaning (Add ticket program) before after (Ok (Moved count)) list list' done t = absurd done.rule
noted_stands meaning (Done ticket) before after (Ok answer) list list' done t =
    none_cond (eqb t ticket.0) _ ∙ ap (λ b. not (eqb t ticket.0) && b) (moved_stands before (take (count_in answer) list') t)
noted_stands meaning (Withdraw mill) before after (Ok answer) list list' done t = moved_stands before (take (count_in answer) list') t
noted_stands meaning (Return mill) before after (Ok answer) list list' done t = moved_stands before (take (count_in answer) list') t
noted_stands meaning (Add ticket program) before after (Err refusal) list list' back t = refl
noted_stands meaning (Done ticket) before after (Err refusal) list list' back t = refl
noted_stands meaning (Withdraw mill) before after (Err refusal) list list' back t = refl
noted_stands meaning (Return mill) before after (Err refusal) list list' back t = refl

-- ---- one turn more

tally_push : (tally : Tally) (turns : List RunTurn) (turn : RunTurn) → tally_after tally (turns ++ turn ∷ []) ≡ noted_by (tally_after tally turns) turn
tally_push tally [] turn = refl
tally_push tally (first ∷ turns) turn = tally_push (noted_by tally first) turns turn

unfinished_push : (was : Bool) (turns : List RunTurn) (turn : RunTurn) (t : ℕ) → unfinished was (turns ++ turn ∷ []) t ≡ unfinished_by (unfinished was turns t) turn.call turn.answer t
unfinished_push was [] turn t = refl
unfinished_push was (first ∷ turns) turn t = unfinished_push (unfinished_by was first.call first.answer t) turns turn t

turns_push : (meaning : Meaning) (tally : Tally) (turns : List RunTurn) (turn : RunTurn) → TurnsBy meaning tally turns → TurnBy meaning (tally_after tally turns) turn
    → TurnsBy meaning tally (turns ++ turn ∷ [])
turns_push meaning tally [] turn each one = (one, tt)
turns_push meaning tally (first ∷ turns) turn each one = (each.0, turns_push meaning (noted_by tally first) turns turn each.1 one)

pub ran_none : (meaning : Meaning) → HasRun meaning [] (opening meaning)
ran_none meaning = record {
  agrees = refl;
  standing = λ t. refl;
  able = λ t place at. let z : ◌≡◌ {A = ℕ} 0 1 = cc in absurd (omega arith);
  each = tt;
  even = even_opening meaning;
}

module _ (meaning : Meaning) (turns : List RunTurn) (board : Tally) (ran : HasRun meaning turns board) (turn : RunTurn) (after : Tally)
    (outcome : Outcome meaning turn.call board after turn.answer turn.list turn.list') where
  -- what the call noted is what the board holds
  held : after ≡ noted_by board turn
  held = outcome_noted meaning turn.call board after turn.answer turn.list turn.list' outcome

  even_after : EvenIn meaning after
  even_after = outcome_even meaning turn.call board after turn.answer turn.list turn.list' outcome ran.even

  one_more : TurnBy meaning board turn
  one_more = record {
    outcome = subst (λ tally. Outcome meaning turn.call board tally turn.answer turn.list turn.list') held outcome;
    even = subst (EvenIn meaning) held even_after;
  }

  pub ran_more : HasRun meaning (turns ++ turn ∷ []) after
  ran_more = record {
    agrees = held ∙ ap (λ tally. noted_by tally turn) ran.agrees ∙ sym (tally_push (opening meaning) turns turn);
    standing = λ t.
        ap (λ tally. is_some (tally.seat t)) held
        ∙ noted_stands meaning turn.call board after turn.answer turn.list turn.list' outcome t
        ∙ ap (λ was. unfinished_by was turn.call turn.answer t) (ran.standing t)
        ∙ sym (unfinished_push false turns turn t);
    able = outcome_able meaning turn.call board after turn.answer turn.list turn.list' outcome ran.able;
    each = turns_push meaning (opening meaning) turns turn ran.each (subst (λ tally. TurnBy meaning tally turn) ran.agrees one_more);
    even = even_after;
  }
