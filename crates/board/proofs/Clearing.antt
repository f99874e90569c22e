-- The tickets of a mill come off, one after the other.
use Rattle.std.proofs.Common.{◌≡◌, ℕ, ◌+◌, ◌<◌, ◌≤◌, true, false, eqb, None, sym, refl, ap, ◌∙◌, ⊎_elim, arith}
use Rattle.std.proofs.lemmas.Bool.{cases_Bool, cases_eq, cond-true, cond-false, eq-eqb, ne_eqb, both_ways}
use Rattle.semimatching.specs.Placements.{stands_on, load}
use Rattle.semimatching.proofs.Loads.{load_empty}
use Rattle.capability.specs.Meaning.{Meaning}
use Rattle.table.specs.Held.{meant, tally_of}
use Rattle.table.specs.Tally.{Tally, shop_in, placement, seated}
use Rattle.table.specs.declared.table.Table.{Table}
use Rattle.board.specs.Rules.{cleared}
use Rattle.board.proofs.TallyLaws.{mill_at}

-- those below n that stood on the mill are off
pub record Clearing (start : Table) (mill n : ℕ) (table : Table) : Type 0 where
  pub meaning : meant table ≡ meant start
  pub below : (t : ℕ) → t < n → (tally_of table).seat t ≡ (cleared (tally_of start) mill).seat t
  pub above : (t : ℕ) → n ≤ t → (tally_of table).seat t ≡ (tally_of start).seat t
  pub service : (tally_of table).service ≡ (tally_of start).service

module _ (start : Table) (mill n : ℕ) (table : Table) (so : Clearing start mill n table) where
  here : stands_on (placement (tally_of start) n) mill ≡ stands_on (placement (tally_of table) n) mill
  here = ap (λ seat. stands_on (mill_at seat) mill) (sym (so.above n (omega arith)))

  -- the ticket n stands on the mill, and comes off
  pub clearing_off : (after : Table) → stands_on (placement (tally_of table) n) mill ≡ true → meant after ≡ meant table → tally_of after ≡ seated (tally_of table) n None → Clearing start mill (n + 1) after
  clearing_off after on meaning off =
      let other : (t : ℕ) → (t ≡ n → ⊥) → (tally_of after).seat t ≡ (tally_of table).seat t = λ t ne. ap (λ tally. tally.seat t) off ∙ cond-false (eqb t n) None ((tally_of table).seat t) (ne_eqb t n ne) in
      record {
        meaning = meaning ∙ so.meaning;
        below = λ t low.
            ⊎_elim
            (λ (e : t ≡ n).
            ap (λ tally. tally.seat t) off ∙ cond-true (eqb t n) None ((tally_of table).seat t) (eq-eqb t n e)
            ∙ sym (ap (cleared (tally_of start) mill).seat e ∙ cond-true (stands_on (placement (tally_of start) n) mill) None ((tally_of start).seat n) (here ∙ on)))
            (λ (ne : t ≡ n → ⊥). other t ne ∙ so.below t (omega arith))
            (cases_eq t n);
        above = λ t high. other t (λ e. omega arith) ∙ so.above t (omega arith);
        service = ap (λ tally. tally.service) off ∙ so.service;
      }

  -- it stands elsewhere or not at all, and stays
  pub clearing_stays : (after : Table) → stands_on (placement (tally_of table) n) mill ≡ false → after ≡ table → Clearing start mill (n + 1) after
  clearing_stays after elsewhere same = record {
    meaning = ap meant same ∙ so.meaning;
    below = λ t low.
        ap (λ table. (tally_of table).seat t) same
        ∙ ⊎_elim
        (λ (e : t ≡ n).
        so.above t (omega arith)
        ∙ sym (ap (cleared (tally_of start) mill).seat e ∙ cond-false (stands_on (placement (tally_of start) n) mill) None ((tally_of start).seat n) (here ∙ elsewhere) ∙ ap (tally_of start).seat (sym e)))
        (λ (ne : t ≡ n → ⊥). so.below t (omega arith))
        (cases_eq t n);
    above = λ t high. ap (λ table. (tally_of table).seat t) same ∙ so.above t (omega arith);
    service = ap (λ table. (tally_of table).service) same ∙ so.service;
  }

-- no ticket stands on a mill that is cleared
pub cleared_empty : (meaning : Meaning) (before : Tally) (mill : ℕ) → load (shop_in meaning (cleared before mill)) (placement (cleared before mill)) mill ≡ 0
cleared_empty meaning before mill =
    load_empty (shop_in meaning (cleared before mill)) (placement (cleared before mill)) mill
    (λ t low on.
    ⊎_elim
    (λ (here : stands_on (placement before t) mill ≡ true).
    let off = cond-true (stands_on (placement before t) mill) None (before.seat t) here in
    let z : ◌≡◌ {A = ℕ} 0 1 = cc in
    omega arith)
    (λ (elsewhere : stands_on (placement before t) mill ≡ false).
    let stays = cond-false (stands_on (placement before t) mill) None (before.seat t) elsewhere in
    both_ways (stands_on (placement before t) mill) elsewhere (ap (λ o. stands_on o mill) (sym (ap mill_at stays) ∙ on) ∙ eq-eqb mill mill refl))
    (cases_Bool (stands_on (placement before t) mill)))
