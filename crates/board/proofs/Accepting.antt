-- What the acceptance of a call tells of the tally.
use Rattle.std.proofs.Common.{◌≡◌, ℕ, zero, suc, ◌<◌, ◌≤◌, Bool, true, false, ◌&&◌, eqb, ◌⊎◌, is_some, Some, None, sym, ap, ◌∙◌, inl, inr, ⊎_elim, arith}
use Rattle.std.specs.Option.{option_map}
use Rattle.std.proofs.lemmas.Bool.{cases_Bool, cases_eq, cases_lt, cond-false, ne_eqb, and_parts, both_ways}
use Rattle.vocabulary.specs.declared.numbers.Mill.{Mill}
use Rattle.vocabulary.specs.declared.numbers.Program.{Program}
use Rattle.vocabulary.specs.declared.numbers.Ticket.{Ticket}
use Rattle.vocabulary.specs.declared.refusal.Refusal.TheVariants.{NoSuchTicket, Standing, NotStanding, NoAbleMill, NoSuchMill, SameService, Stranded}
use Rattle.capability.specs.Meaning.{Meaning}
use Rattle.table.specs.Tally.{Place, Tally, mill_for, mill_of, serving}
use Rattle.board.specs.Causes.{Strands, no_ticket_to_add, stands, away, unable, no_mill_to_return, serves, stranded, Acceptable}
use Rattle.board.specs.Rules.{cleared}
use Rattle.board.specs.declared.call.Call.TheVariants.{Add, Done, Withdraw, Return}
use Rattle.board.proofs.RecordRules.{seat_away}

-- a test passes below a bound, or nowhere below it
one_or_none : (test : ℕ → Bool) (n : ℕ) → ((m : ℕ) × (test m ≡ true)) ⊎ ((m : ℕ) → m < n → test m ≡ false)
one_or_none test zero = inr (λ m low. absurd (omega arith))
one_or_none test (suc n) =
    ⊎_elim
    (λ (found : (m : ℕ) × (test m ≡ true)). inl found)
    (λ (none : (m : ℕ) → m < n → test m ≡ false).
    ⊎_elim
    (λ (yes : test n ≡ true). inl (n, yes))
    (λ (no : test n ≡ false).
    inr (λ m low. ⊎_elim (λ (e : m ≡ n). ap test e ∙ no) (λ (ne : m ≡ n → ⊥). none m (omega arith)) (cases_eq m n)))
    (cases_Bool (test n)))
    (one_or_none test n)

-- a test that passes only below 64, and not nowhere, passes somewhere
some_mill : (test : ℕ → Bool) → ((m : ℕ) → test m ≡ true → m < 64) → (((m : ℕ) → test m ≡ false) → ⊥) → (m : ℕ) × (test m ≡ true)
some_mill test few some =
    ⊎_elim
    (λ (found : (m : ℕ) × (test m ≡ true)). found)
    (λ (none : (m : ℕ) → m < 64 → test m ≡ false).
    absurd (some (λ m. ⊎_elim (λ (yes : test m ≡ true). none m (few m yes)) (λ (no : test m ≡ false). no) (cases_Bool (test m)))))
    (one_or_none test 64)

module _ (meaning : Meaning) (tally : Tally) (few : (m : ℕ) → tally.service m ≡ true → m < 64) where
  -- a mill for a program is below 64
  for_few : (p m : ℕ) → mill_for meaning tally.service p m ≡ true → m < 64
  for_few p m may = few m (and_parts (meaning.able p m) (tally.service m) may).1

  module _ (ticket : Ticket) (program : Program) (may : Acceptable meaning tally (Add ticket program)) where
    pub add_exists : ticket.0 < 1024
    add_exists = ⊎_elim (λ (low : ticket.0 < 1024). low) (λ (high : 1024 ≤ ticket.0). absurd (may.1 (NoSuchTicket ticket) (no_ticket_to_add high))) (cases_lt ticket.0 1024)

    pub add_away : tally.seat ticket.0 ≡ None
    add_away = seat_away (tally.seat ticket.0) (λ here. may.1 (Standing ticket) (stands here))

    pub add_some : (m : ℕ) × (mill_for meaning tally.service program.0 m ≡ true)
    add_some = some_mill (mill_for meaning tally.service program.0) (for_few program.0) (λ none. may.1 (NoAbleMill ticket) (unable none))

  module _ (mill : Mill) (may : Acceptable meaning tally (Withdraw mill)) where
    -- no ticket is stranded, for there is no lowest such ticket
    none_below : (n t : ℕ) → t < n → Strands meaning tally mill.0 t → ⊥
    none_below zero t low here = omega arith
    none_below (suc n) t low here = may.1 (Stranded (record { 0 = t })) (stranded here (λ k less. none_below n k (omega arith)))

    -- a ticket of the mill has another, once the mill is out
    pub withdraw_free : (t : ℕ) (place : Place) → tally.seat t ≡ Some place → place.mill ≡ mill.0
        → (m : ℕ) × (mill_for meaning (serving (cleared tally mill.0) mill.0 false).service place.program m ≡ true)
    withdraw_free t place at on =
        ⊎_elim
        (λ (found : (m : ℕ) × (other m ≡ true)). found)
        (λ (none : (m : ℕ) → m < 64 → other m ≡ false). absurd (none_below (suc t) t (omega arith) (strands none)))
        (one_or_none other 64)
      where
        other : ℕ → Bool
        other = mill_for meaning (serving (cleared tally mill.0) mill.0 false).service place.program

        same : (m : ℕ) → (m ≡ mill.0 → ⊥) → other m ≡ mill_for meaning tally.service place.program m
        same m ne = ap (λ b. meaning.able place.program m && b) (cond-false (eqb m mill.0) false (tally.service m) (ne_eqb m mill.0 ne))

        strands : ((m : ℕ) → m < 64 → other m ≡ false) → Strands meaning tally mill.0 t
        strands none = record {
          on = ap (option_map (λ p. p.mill)) at ∙ ap Some on;
          only = λ m can.
              let could : mill_for meaning tally.service place.program m ≡ true = sym (ap (λ seat. mill_of meaning tally.service seat m) at) ∙ can in
              ⊎_elim
              (λ (e : m ≡ mill.0). e)
              (λ (ne : m ≡ mill.0 → ⊥). absurd (both_ways (other m) (none m (for_few place.program m could)) (same m ne ∙ could)))
              (cases_eq m mill.0);
        }

module _ (meaning : Meaning) (tally : Tally) where
  pub done_stands : (ticket : Ticket) → Acceptable meaning tally (Done ticket) → is_some (tally.seat ticket.0) ≡ true
  done_stands ticket may =
      ⊎_elim
      (λ (here : is_some (tally.seat ticket.0) ≡ true). here)
      (λ (gone : is_some (tally.seat ticket.0) ≡ false). absurd (may.1 (NotStanding ticket) (away gone)))
      (cases_Bool (is_some (tally.seat ticket.0)))

  module _ (mill : Mill) (may : Acceptable meaning tally (Return mill)) where
    pub return_below : mill.0 < meaning.mills
    return_below =
        ⊎_elim
        (λ (low : mill.0 < meaning.mills). low)
        (λ (high : meaning.mills ≤ mill.0). absurd (may.1 (NoSuchMill mill) (no_mill_to_return high)))
        (cases_lt mill.0 meaning.mills)

    pub return_out : tally.service mill.0 ≡ false
    return_out =
        ⊎_elim
        (λ (busy : tally.service mill.0 ≡ true). absurd (may.1 (SameService mill) (serves busy)))
        (λ (idle : tally.service mill.0 ≡ false). idle)
        (cases_Bool (tally.service mill.0))
