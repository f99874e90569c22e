-- Each rule keeps the programs of the tickets that stand before and after, so the tally worked out from its records is the one after it.
use Rattle.std.proofs.Common.{◌≡◌, ℕ, ◌≤◌, Bool, true, false, cond, eqb, ◌⊎◌, List, [], ◌∷◌, is_some, Some, None, Option, sym, refl, ap, ◌∙◌, inl, inr, ⊎_elim, arith}
use Rattle.std.specs.Option.{option_map}
use Rattle.std.proofs.lemmas.Bool.{cases_eq, cases_lt, cases_Bool, cond-true, cond-false, eq-eqb, ne_eqb, eqb-true, or_cases, and_from, lt-ltb, false≢true}
use Rattle.sets.specs.Sets.{member}
use Rattle.sets.proofs.Rising.{member-numbers}
use Rattle.capability.specs.Meaning.{Meaning}
use Rattle.vocabulary.specs.declared.refusal.Refusal.TheVariants.{Standing}
use Rattle.semimatching.specs.Chains.{Step, Linked}
use Rattle.semimatching.specs.Placements.{Shop, Placement, stands_on}
use Rattle.table.specs.Tally.{Place, Tally, placement, seated, serving}
use Rattle.search.specs.Rules.{relocated, carried_out, PlacedByRule, ShiftedByRule}
use Rattle.board.specs.Causes.{Accepted, stands}
use Rattle.board.specs.Records.{records_of, mill_in, after_call}
use Rattle.board.specs.Rules.{Finished, PlacedAgain, all, next, Withdrawn, Settled, none, more, Returned, Ruled}
use Rattle.board.specs.declared.call.Answer.{Answer}
use Rattle.board.specs.declared.call.Call.{Call}
use Rattle.board.specs.declared.call.Call.TheVariants.{Add, Done, Withdraw, Return}
use Rattle.board.proofs.RecordMoves.{program_in, agrees_add, agrees_done, agrees_withdraw, agrees_return}

-- ---- a chain that is carried out

program_relocated : (tally : Tally) (s : Step) (t : ℕ) → program_in (relocated tally s) t ≡ program_in tally t
program_relocated tally s t = go (eqb t s.ticket) (tally.seat t)
  where
    go : (here : Bool) (seat : Option Place)
        → option_map (λ place. place.program) (cond here (option_map (λ place. record { program = place.program; mill = s.mill }) seat) seat) ≡ option_map (λ place. place.program) seat
    go true None = refl
    go true (Some place) = refl
    go false seat = refl

pub program_carried : (tally : Tally) (steps : List Step) (t : ℕ) → program_in (carried_out tally steps) t ≡ program_in tally t
program_carried tally [] t = refl
program_carried tally (s ∷ ss) t = program_carried (relocated tally s) ss t ∙ program_relocated tally s t

-- a ticket stands exactly if it has a program
pub stands_program : (seat : Option Place) → is_some (option_map (λ place. place.program) seat) ≡ is_some seat
stands_program None = refl
stands_program (Some place) = refl

pub standing-carried : (tally : Tally) (steps : List Step) (t : ℕ) → is_some ((carried_out tally steps).seat t) ≡ is_some (tally.seat t)
standing-carried tally steps t = sym (stands_program ((carried_out tally steps).seat t)) ∙ ap is_some (program_carried tally steps t) ∙ stands_program (tally.seat t)

pub service_carried : (tally : Tally) (steps : List Step) → (carried_out tally steps).service ≡ tally.service
service_carried tally [] = refl
service_carried tally (s ∷ ss) = service_carried (relocated tally s) ss

-- a ticket that did not stand is in no step
pub seat_carried : (shop : Shop) (base : Placement) (v : ℕ) (steps : List Step) (w t : ℕ) → Linked shop base v steps w → base t ≡ None
    → (tally : Tally) → (carried_out tally steps).seat t ≡ tally.seat t
seat_carried shop base v [] w t l away tally = refl
seat_carried shop base v (s ∷ ss) w t l away tally =
    seat_carried shop base s.mill ss w t l.4 away (relocated tally s)
    ∙ cond-false (eqb t s.ticket) _ _
    (ne_eqb t s.ticket
    (λ e.
    let on = l.1 in
    let z : ◌≡◌ {A = ℕ} 0 1 = cc in
    omega arith))

-- ---- a ticket is placed, or a chain is carried out towards a mill

-- nothing stands where there is no program
pub no_seat : (seat : Option Place) → option_map (λ place. place.program) seat ≡ None → seat ≡ None
no_seat None away = refl
no_seat (Some place) away = let z : ◌≡◌ {A = ℕ} 0 1 = cc in absurd (omega arith)

module _ (tally : Tally) (ticket : ℕ) (place : Option Place) where
  program_seated : program_in (seated tally ticket place) ticket ≡ option_map (λ p. p.program) place
  program_seated = ap (option_map (λ p. p.program)) (cond-true (eqb ticket ticket) place (tally.seat ticket) (eq-eqb ticket ticket refl))

  program_others : (t : ℕ) → (t ≡ ticket → ⊥) → program_in (seated tally ticket place) t ≡ program_in tally t
  program_others t other = ap (option_map (λ p. p.program)) (cond-false (eqb t ticket) place (tally.seat t) (ne_eqb t ticket other))

module _ (meaning : Meaning) (before : Tally) (ticket program : ℕ) (after : Tally) (mill : ℕ) (rule : PlacedByRule meaning before ticket program after mill) where
  abbrev first : Tally
  first = seated before ticket (Some (record { program = program; mill = mill }))

  pub placed_seat : before.seat ticket ≡ None → after.seat ticket ≡ Some (record { program = program; mill = mill })
  placed_seat away =
      ap (λ tally. tally.seat ticket) rule.result
      ∙ seat_carried _ (placement before) mill rule.steps rule.last ticket rule.choice.chain.linked (ap (option_map (λ place. place.mill)) away) first
      ∙ cond-true (eqb ticket ticket) _ _ (eq-eqb ticket ticket refl)

  pub placed_program : program_in after ticket ≡ Some program
  placed_program = ap (λ tally. program_in tally ticket) rule.result ∙ program_carried first rule.steps ticket ∙ program_seated before ticket (Some (record { program = program; mill = mill }))

  pub placed_others : (t : ℕ) → (t ≡ ticket → ⊥) → program_in after t ≡ program_in before t
  placed_others t other =
      ap (λ tally. program_in tally t) rule.result ∙ program_carried first rule.steps t ∙ program_others before ticket (Some (record { program = program; mill = mill })) t other

  pub placed_service : after.service ≡ before.service
  placed_service = ap (λ tally. tally.service) rule.result ∙ service_carried first rule.steps

module _ (meaning : Meaning) (before : Tally) (mill : ℕ) (after : Tally) (rule : ShiftedByRule meaning before mill after) where
  pub shifted_program : (t : ℕ) → program_in after t ≡ program_in before t
  shifted_program t = ap (λ tally. program_in tally t) rule.result ∙ program_carried before rule.steps t

  pub shifted_service : after.service ≡ before.service
  shifted_service = ap (λ tally. tally.service) rule.result ∙ service_carried before rule.steps

-- ---- the four rules

module _ (meaning : Meaning) (before : Tally) (ticket : ℕ) (after : Tally) (rule : Finished meaning before ticket after) where
  finished_program : (t : ℕ) → program_in after t ≡ program_in (seated before ticket None) t
  finished_program t =
      ⊎_elim
      (λ shifts. shifted_program meaning (seated before ticket None) rule.mill after shifts t)
      (λ stays. ap (λ tally. program_in tally t) stays.1)
      rule.rule

  pub finished_seat : after.seat ticket ≡ None
  finished_seat = no_seat (after.seat ticket) (finished_program ticket ∙ program_seated before ticket None)

  pub finished_others : (t : ℕ) → (t ≡ ticket → ⊥) → program_in after t ≡ program_in before t
  finished_others t other = finished_program t ∙ program_others before ticket None t other

  pub finished_service : after.service ≡ before.service
  finished_service =
      ⊎_elim
      (λ shifts. shifted_service meaning (seated before ticket None) rule.mill after shifts)
      (λ stays. ap (λ tally. tally.service) stays.1)
      rule.rule

again_program : (meaning : Meaning) (before : Tally) (t : ℕ) {ts : List ℕ} {tally after : Tally} → PlacedAgain meaning before ts tally after
    → (program_in tally t ≡ program_in before t) ⊎ (member t ts ≡ true) → program_in after t ≡ program_in before t
again_program meaning before t all has = ⊎_elim (λ (same : _). same) (λ (later : _). absurd (false≢true later)) has
again_program meaning before t (next {t = k} {ts = ts} {tally = tally} {then = then} place mill stood rule rest) has =
    again_program meaning before t rest
    (⊎_elim
    (λ (here : t ≡ k).
    inl (ap (program_in then) here ∙ placed_program meaning tally k place.program then mill rule ∙ sym (ap (option_map (λ p. p.program)) (ap before.seat here ∙ stood))))
    (λ (other : t ≡ k → ⊥).
    ⊎_elim
    (λ (same : program_in tally t ≡ program_in before t). inl (placed_others meaning tally k place.program then mill rule t other ∙ same))
    (λ (later : member t (k ∷ ts) ≡ true).
    ⊎_elim (λ (now : eqb t k ≡ true). absurd (other (eqb-true t k now))) (λ (then : member t ts ≡ true). inr then) (or_cases (eqb t k) (member t ts) later))
    has)
    (cases_eq t k))

again_service : (meaning : Meaning) (before : Tally) {ts : List ℕ} {tally after : Tally} → PlacedAgain meaning before ts tally after → after.service ≡ tally.service
again_service meaning before all = refl
again_service meaning before (next {t = k} {tally = tally} {then = then} place mill stood rule rest) =
    again_service meaning before rest ∙ placed_service meaning tally k place.program then mill rule

module _ (meaning : Meaning) (before : Tally) (mill : ℕ) (after : Tally) (rule : Withdrawn meaning before mill after) where
  -- a ticket of the mill is placed again, and any other has not come off
  pub withdrawn_program : ((t : ℕ) → 1024 ≤ t → before.seat t ≡ None) → (t : ℕ) → program_in after t ≡ program_in before t
  withdrawn_program past t =
      again_program meaning before t rule
      (⊎_elim
      (λ (on : stands_on (placement before t) mill ≡ true).
      ⊎_elim
      (λ below. inr (member-numbers (λ k. stands_on (placement before k) mill) t 1024 ∙ and_from _ _ (lt-ltb t 1024 below) on))
      (λ above. absurd (false≢true (sym (ap (λ seat. stands_on (option_map (λ place. place.mill) seat) mill) (past t above)) ∙ on)))
      (cases_lt t 1024))
      (λ (off : stands_on (placement before t) mill ≡ false). inl (ap (option_map (λ place. place.program)) (cond-false (stands_on (placement before t) mill) None (before.seat t) off)))
      (cases_Bool (stands_on (placement before t) mill)))

  pub withdrawn_service : after.service ≡ (serving before mill false).service
  withdrawn_service = again_service meaning before rule

settled_program : (meaning : Meaning) (mill : ℕ) (t : ℕ) {tally after : Tally} → Settled meaning mill tally after → program_in after t ≡ program_in tally t
settled_program meaning mill t (none nothing) = refl
settled_program meaning mill t (more {tally = tally} {then = then} shifts rest) = settled_program meaning mill t rest ∙ shifted_program meaning tally mill then shifts t

settled_service : (meaning : Meaning) (mill : ℕ) {tally after : Tally} → Settled meaning mill tally after → after.service ≡ tally.service
settled_service meaning mill (none nothing) = refl
settled_service meaning mill (more {tally = tally} {then = then} shifts rest) = settled_service meaning mill rest ∙ shifted_service meaning tally mill then shifts

module _ (meaning : Meaning) (before : Tally) (mill : ℕ) (after : Tally) (rule : Returned meaning before mill after) where
  pub returned_program : (t : ℕ) → program_in after t ≡ program_in before t
  returned_program t = settled_program meaning mill t rule

  pub returned_service : after.service ≡ (serving before mill true).service
  returned_service = settled_service meaning mill rule

-- ---- every call

-- what does not stand has no seat
pub seat_away : (seat : Option Place) → (is_some seat ≡ true → ⊥) → seat ≡ None
seat_away None away = refl
seat_away (Some place) away = absurd (away refl)

pub ruled_agrees : (meaning : Meaning) (room : ℕ) (call : Call) (before after : Tally) (answer : Answer) → ((t : ℕ) → 1024 ≤ t → before.seat t ≡ None)
    → Accepted meaning before room call → Ruled meaning call before answer after → after ≡ after_call before call answer (records_of before after)
ruled_agrees meaning room (Add ticket program) before after answer past accepted rule =
    agrees_add before after past answer ticket program
    (placed_seat meaning before ticket.0 program.0 after (mill_in answer) rule (seat_away (before.seat ticket.0) (λ h. accepted (Standing ticket) (stands h))))
    (placed_others meaning before ticket.0 program.0 after (mill_in answer) rule) (placed_service meaning before ticket.0 program.0 after (mill_in answer) rule)
ruled_agrees meaning room (Done ticket) before after answer past accepted rule =
    agrees_done before after past answer ticket (finished_seat meaning before ticket.0 after rule) (finished_others meaning before ticket.0 after rule)
    (finished_service meaning before ticket.0 after rule)
ruled_agrees meaning room (Withdraw mill) before after answer past accepted rule =
    agrees_withdraw before after past answer mill (withdrawn_program meaning before mill.0 after rule past) (withdrawn_service meaning before mill.0 after rule)
ruled_agrees meaning room (Return mill) before after answer past accepted rule =
    agrees_return before after past answer mill (returned_program meaning before mill.0 after rule) (returned_service meaning before mill.0 after rule)
