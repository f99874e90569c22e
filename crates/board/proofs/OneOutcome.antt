-- A call has one outcome.
use Rattle.std.proofs.Common.{◌≡◌, ℕ, ◌<◌, ◌≤◌, ◌⊎◌, List, ◌∷◌, ◌++◌, length, drop, Some, None, Ok, Err, Option, sym, refl, ap, ◌∙◌, subst, ap₂, subst₂, ⊎_elim, arith}
use Rattle.std.proofs.lemmas.Bool.{cases_lt}
use Rattle.vocabulary.specs.Told.{told}
use Rattle.vocabulary.specs.declared.numbers.Mill.{Mill}
use Rattle.vocabulary.specs.declared.refusal.Refusal.{Refusal}
use Rattle.vocabulary.specs.declared.refusal.Refusal.TheVariants.{NoSuchTicket, Standing, NotStanding, NoAbleMill, NoSuchMill, SameService, Stranded, ShortList}
use Rattle.capability.specs.Meaning.{Meaning}
use Rattle.semimatching.proofs.OneChoice.{one_placing, one_shifting}
use Rattle.table.specs.Tally.{Tally, shop_in, placement, seated, standing}
use Rattle.search.specs.Rules.{shop_for, carried_out, PlacedByRule, ShiftedByRule, NothingToShift}
use Rattle.board.specs.Causes.{Strands, Cause, Refused}
use Rattle.board.specs.Notes.{mill_told}
use Rattle.board.specs.Records.{records_of, count_in}
use Rattle.board.specs.Rules.{Finished, PlacedAgain, all, next, Settled, none, more}
use Rattle.board.specs.Rulings.{Ruling}
use Rattle.board.specs.Theorems.{Same, OneOutcome}
use Rattle.board.specs.Outcomes.{Fulfilled}
use Rattle.board.specs.declared.call.Answer.{Answer}
use Rattle.board.specs.declared.call.Answer.TheVariants.{Added, Moved}
use Rattle.board.specs.declared.call.Call.{Call}
use Rattle.board.specs.declared.call.Call.TheVariants.{Add, Done, Withdraw, Return}
use Rattle.board.specs.declared.moves.Move.{Move}
use Rattle.board.proofs.CauseLaws.{add_each, done_each, withdraw_each, return_each}

-- ---- the rules

some_same : {A : Type 0} (a b : A) (o : Option A) → o ≡ Some a → o ≡ Some b → a ≡ b
some_same a b o p q = cc

-- a ticket is placed in one way
one_placed : (meaning : Meaning) (before : Tally) (t p : ℕ) (after after' : Tally) (mill mill' : ℕ) → PlacedByRule meaning before t p after mill → PlacedByRule meaning before t p after' mill'
    → (mill ≡ mill') × (after ≡ after')
one_placed meaning before t p after after' mill mill' rule rule' =
    let same = one_placing (shop_for meaning before t p) (placement before) t mill rule.steps rule.last mill' rule'.steps rule'.last rule.choice rule'.choice in (
      same.0,
      rule.result ∙ (λ i. carried_out (seated before t (Some (record { program = p; mill = same.0 i }))) (same.1 i)) ∙ sym rule'.result,
    )

-- a chain is carried out in one way
one_shifted : (meaning : Meaning) (before : Tally) (mill : ℕ) (after after' : Tally) → ShiftedByRule meaning before mill after → ShiftedByRule meaning before mill after' → after ≡ after'
one_shifted meaning before mill after after' rule rule' =
    let same = one_shifting (shop_in meaning before) (placement before) mill rule.from rule.steps rule'.from rule'.steps rule.choice rule'.choice in
    rule.result ∙ ap (carried_out before) same.1 ∙ sym rule'.result

-- and not where there is none
no_shift : {meaning : Meaning} {before after : Tally} {mill : ℕ} → ShiftedByRule meaning before mill after → NothingToShift meaning before mill → ⊥
no_shift rule nothing = nothing rule.from rule.steps rule.choice.chain rule.choice.improves

one_finished : (meaning : Meaning) (before : Tally) (t : ℕ) (after after' : Tally) → Finished meaning before t after → Finished meaning before t after' → after ≡ after'
one_finished meaning before t after after' done done' =
    let gone = seated before t None in
    let same = some_same done.mill done'.mill (placement before t) done.stood done'.stood in
    let rule' = subst (λ m. ShiftedByRule meaning gone m after' ⊎ (NothingToShift meaning gone m × (after' ≡ gone))) (sym same) done'.rule in
    ⊎_elim
    (λ (a : ShiftedByRule meaning gone done.mill after).
    ⊎_elim
    (λ (b : ShiftedByRule meaning gone done.mill after'). one_shifted meaning gone done.mill after after' a b)
    (λ (b : NothingToShift meaning gone done.mill × (after' ≡ gone)). absurd (no_shift a b.0))
    rule')
    (λ (a : NothingToShift meaning gone done.mill × (after ≡ gone)).
    ⊎_elim
    (λ (b : ShiftedByRule meaning gone done.mill after'). absurd (no_shift b a.0))
    (λ (b : NothingToShift meaning gone done.mill × (after' ≡ gone)). a.1 ∙ sym b.1)
    rule')
    done.rule

one_again : (meaning : Meaning) (before : Tally) (ts : List ℕ) (tally tally' after after' : Tally) → tally ≡ tally'
    → PlacedAgain meaning before ts tally after → PlacedAgain meaning before ts tally' after' → after ≡ after'
one_again meaning before _ _ _ _ _ same all all = same
one_again meaning before (t ∷ ts) tally tally' after after' same (next {then = then} place mill stood rule rest) (next {then = then'} place' mill' stood' rule' rest') =
    let program = ap (λ p. p.program) (some_same place' place (before.seat t) stood' stood) in
    let again = subst₂ (λ tally p. PlacedByRule meaning tally t p then' mill') (sym same) program rule' in
    one_again meaning before ts then then' after after' (one_placed meaning tally t place.program then then' mill mill' rule again).1 rest rest'

one_settled : (meaning : Meaning) (mill : ℕ) (tally tally' after after' : Tally) → tally ≡ tally' → Settled meaning mill tally after → Settled meaning mill tally' after' → after ≡ after'
one_settled meaning mill _ _ _ _ same (none nothing) (none nothing') = same
one_settled meaning mill tally tally' _ _ same (none nothing) (more {then = then} rule rest) = absurd (no_shift rule (subst (λ t. NothingToShift meaning t mill) same nothing))
one_settled meaning mill tally tally' _ _ same (more {then = then} rule rest) (none nothing) = absurd (no_shift rule (subst (λ t. NothingToShift meaning t mill) (sym same) nothing))
one_settled meaning mill tally tally' after after' same (more {then = then} rule rest) (more {then = then'} rule' rest') =
    one_settled meaning mill then then' after after'
    (one_shifted meaning tally mill then then' rule (subst (λ t. ShiftedByRule meaning t mill then') (sym same) rule')) rest rest'

one_ruled : (meaning : Meaning) (call : Call) (before : Tally) (told told' : Option Mill) (after after' : Tally) → Ruling meaning call before told after → Ruling meaning call before told' after'
    → (told ≡ told') × (after ≡ after')
one_ruled meaning (Add ticket program) before (Some mill) (Some mill') after after' rule rule' =
    let same = one_placed meaning before ticket.0 program.0 after after' mill.0 mill'.0 rule rule' in
    (ap (λ m. Some (record { 0 = m })) same.0, same.1)
one_ruled meaning (Add ticket program) before (Some mill) None after after' rule rule' = absurd rule'
one_ruled meaning (Add ticket program) before None told' after after' rule rule' = absurd rule
one_ruled meaning (Done ticket) before None None after after' rule rule' = (refl, one_finished meaning before ticket.0 after after' rule rule')
one_ruled meaning (Done ticket) before (Some told) told' after after' rule rule' = absurd rule
one_ruled meaning (Done ticket) before None (Some told') after after' rule rule' = absurd rule'
one_ruled meaning (Withdraw mill) before None None after after' rule rule' = (refl, one_again meaning before _ _ _ after after' refl rule rule')
one_ruled meaning (Withdraw mill) before (Some told) told' after after' rule rule' = absurd rule
one_ruled meaning (Withdraw mill) before None (Some told') after after' rule rule' = absurd rule'
one_ruled meaning (Return mill) before None None after after' rule rule' = (refl, one_settled meaning mill.0 _ _ after after' refl rule rule')
one_ruled meaning (Return mill) before (Some told) told' after after' rule rule' = absurd rule
one_ruled meaning (Return mill) before None (Some told') after after' rule rule' = absurd rule'

-- ---- the refusals

-- the lowest ticket that passes a test
one_lowest : (P : ℕ → Type 0) (t u : ℕ) → P t → P u → ((k : ℕ) → k < t → P k → ⊥) → ((k : ℕ) → k < u → P k → ⊥) → t ≡ u
one_lowest P t u here there lower lower' =
    ⊎_elim
    (λ (less : t < u). absurd (lower' t less here))
    (λ (le : u ≤ t). ⊎_elim (λ (less : u < t). absurd (lower u less there)) (λ (ge : t ≤ u). let e : t ≡ u = omega arith in e) (cases_lt u t))
    (cases_lt t u)

-- two refusals of one number are one
abbrev OneOf : Refusal → Refusal → Type 0
OneOf r r' = (told r).number ≡ (told r').number → r ≡ r'

module _ (meaning : Meaning) (tally : Tally) (room : ℕ) where
  one_cause : (call : Call) (r r' : Refusal) → Cause meaning tally room call r → Cause meaning tally room call r' → OneOf r r'
  one_cause (Add t p) r r' c c' =
      add_each meaning tally room t p (λ r. OneOf r r')
      (λ _. add_each meaning tally room t p (OneOf (NoSuchTicket t)) (λ _ _. refl) (λ _ e. absurd (omega arith)) (λ _ e. absurd (omega arith)) (λ _ e. absurd (omega arith)) r' c')
      (λ _. add_each meaning tally room t p (OneOf (Standing t)) (λ _ e. absurd (omega arith)) (λ _ _. refl) (λ _ e. absurd (omega arith)) (λ _ e. absurd (omega arith)) r' c')
      (λ _. add_each meaning tally room t p (OneOf (NoAbleMill t)) (λ _ e. absurd (omega arith)) (λ _ e. absurd (omega arith)) (λ _ _. refl) (λ _ e. absurd (omega arith)) r' c')
      (λ _. add_each meaning tally room t p (OneOf (ShortList (standing tally))) (λ _ e. absurd (omega arith)) (λ _ e. absurd (omega arith)) (λ _ e. absurd (omega arith)) (λ _ _. refl) r' c')
      r c
  one_cause (Done t) r r' c c' =
      done_each meaning tally room t (λ r. OneOf r r')
      (λ _. done_each meaning tally room t (OneOf (NoSuchTicket t)) (λ _ _. refl) (λ _ e. absurd (omega arith)) (λ _ e. absurd (omega arith)) r' c')
      (λ _. done_each meaning tally room t (OneOf (NotStanding t)) (λ _ e. absurd (omega arith)) (λ _ _. refl) (λ _ e. absurd (omega arith)) r' c')
      (λ _. done_each meaning tally room t (OneOf (ShortList (standing tally))) (λ _ e. absurd (omega arith)) (λ _ e. absurd (omega arith)) (λ _ _. refl) r' c')
      r c
  one_cause (Withdraw m) r r' c c' =
      withdraw_each meaning tally room m (λ r. OneOf r r')
      (λ _. withdraw_each meaning tally room m (OneOf (NoSuchMill m)) (λ _ _. refl) (λ _ e. absurd (omega arith)) (λ _ _ _ e. absurd (omega arith)) (λ _ e. absurd (omega arith)) r' c')
      (λ _. withdraw_each meaning tally room m (OneOf (SameService m)) (λ _ e. absurd (omega arith)) (λ _ _. refl) (λ _ _ _ e. absurd (omega arith)) (λ _ e. absurd (omega arith)) r' c')
      (λ t here lower.
      withdraw_each meaning tally room m (OneOf (Stranded t)) (λ _ e. absurd (omega arith)) (λ _ e. absurd (omega arith))
      (λ u there lower' _. ap (λ k. Stranded (record { 0 = k })) (one_lowest (Strands meaning tally m.0) t.0 u.0 here there lower lower'))
      (λ _ e. absurd (omega arith)) r' c')
      (λ _. withdraw_each meaning tally room m (OneOf (ShortList (standing tally))) (λ _ e. absurd (omega arith)) (λ _ e. absurd (omega arith)) (λ _ _ _ e. absurd (omega arith)) (λ _ _. refl) r' c')
      r c
  one_cause (Return m) r r' c c' =
      return_each meaning tally room m (λ r. OneOf r r')
      (λ _. return_each meaning tally room m (OneOf (NoSuchMill m)) (λ _ _. refl) (λ _ e. absurd (omega arith)) (λ _ e. absurd (omega arith)) r' c')
      (λ _. return_each meaning tally room m (OneOf (SameService m)) (λ _ e. absurd (omega arith)) (λ _ _. refl) (λ _ e. absurd (omega arith)) r' c')
      (λ _. return_each meaning tally room m (OneOf (ShortList (standing tally))) (λ _ e. absurd (omega arith)) (λ _ e. absurd (omega arith)) (λ _ _. refl) r' c')
      r c

  one_refused : (call : Call) (r r' : Refusal) → Refused meaning tally room call r → Refused meaning tally room call r' → r ≡ r'
  one_refused call r r' back back' =
      let low = back.first r' back'.cause in
      let high = back'.first r back.cause in
      one_cause call r r' back.cause back'.cause (omega arith)

-- ---- the outcome

-- the mill and the count tell the answer
one_answer : (a b : Answer) → mill_told a ≡ mill_told b → count_in a ≡ count_in b → a ≡ b
one_answer (Added m c) (Added n d) mills counts = let mill : m ≡ n = cc in ap₂ Added mill counts
one_answer (Added m c) (Moved d) mills counts = let z : ◌≡◌ {A = ℕ} 0 1 = cc in absurd (omega arith)
one_answer (Moved c) (Added n d) mills counts = let z : ◌≡◌ {A = ℕ} 0 1 = cc in absurd (omega arith)
one_answer (Moved c) (Moved d) mills counts = ap Moved counts

one_performed : (meaning : Meaning) (call : Call) (before : Tally) (list : List Move) (after after' : Tally) (answer answer' : Answer) (list' list'' : List Move)
    → Fulfilled meaning call before after answer list list' → Fulfilled meaning call before after' answer' list list'' → Same after after' (Ok answer) (Ok answer') list' list''
one_performed meaning call before list after after' answer answer' list' list'' one other =
    let same = one_ruled meaning call before (mill_told answer) (mill_told answer') after after' one.rule other.rule in
    record {
      one_tally = same.1;
      one_answer = ap Ok (one_answer answer answer' same.0 (one.counted ∙ ap (λ tally. length (records_of before tally)) same.1 ∙ sym other.counted));
      one_list = one.written ∙ ap (λ tally. records_of before tally ++ drop (length (records_of before tally)) list) same.1 ∙ sym other.written;
    }

pub one_outcome : OneOutcome
one_outcome meaning call before list after after' (Ok answer) (Ok answer') list' list'' one other =
    one_performed meaning call before list after after' answer answer' list' list'' one other
one_outcome meaning call before list after after' (Ok answer) (Err refusal) list' list'' one other = absurd (one.accepted refusal other.refused.cause)
one_outcome meaning call before list after after' (Err refusal) (Ok answer) list' list'' one other = absurd (other.accepted refusal one.refused.cause)
one_outcome meaning call before list after after' (Err refusal) (Err refusal') list' list'' one other = record {
  one_tally = one.unchanged ∙ sym other.unchanged;
  one_answer = ap Err (one_refused meaning before (length list) call refusal refusal' one.refused other.refused);
  one_list = one.untouched ∙ sym other.untouched;
}
