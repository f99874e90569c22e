-- What is left of an even board when a call begins.
use Rattle.std.proofs.Common.{◌≡◌, ℕ, ◌+◌, ◌<◌, ◌≤◌, Bool, true, false, cond, ◌&&◌, eqb, ◌⊎◌, Some, None, Option, sym, refl, ap, ◌∙◌, subst, inl, inr, ⊎_elim, arith}
use Rattle.std.proofs.lemmas.Bool.{false≢true, true≢false, cases_eq, cond-true, cond-false, cond_both, eq-eqb, ne_eqb}
use Rattle.capability.specs.Meaning.{Meaning}
use Rattle.semimatching.specs.Placements.{Placement, stands_on, load}
use Rattle.semimatching.specs.Prices.{position}
use Rattle.semimatching.specs.Potentials.{Potential, None as Nowhere}
use Rattle.semimatching.proofs.Loads.{load_empty}
use Rattle.semimatching.proofs.EvenFrom.{even_from_potential}
use Rattle.semimatching.proofs.Exactly.{least_no_chain}
use Rattle.semimatching.proofs.NoChain.{no_chain_potential}
use Rattle.semimatching.proofs.Starting.{opening as opened, removed_start, withdrawn_start, returned_start}
use Rattle.table.specs.Tally.{Place, Tally, opening, mill_of, shop_in, placement, seated, serving}
use Rattle.search.specs.Rules.{EvenIn, Leaning}
use Rattle.board.specs.Rules.{cleared}
use Rattle.board.proofs.TallyLaws.{Sound, mill_at, placement-seated, serves_of}

pub even_potential : (meaning : Meaning) (tally : Tally) → Sound meaning tally → EvenIn meaning tally → Potential (shop_in meaning tally) position (placement tally) Nowhere
even_potential meaning tally sound even =
    no_chain_potential (shop_in meaning tally) (placement tally) sound (least_no_chain (shop_in meaning tally) (placement tally) sound even.least)

pub potential_even : (meaning : Meaning) (tally : Tally) → Sound meaning tally → Potential (shop_in meaning tally) position (placement tally) Nowhere → EvenIn meaning tally
potential_even meaning tally = even_from_potential (shop_in meaning tally) (placement tally)

pub sound_opening : (meaning : Meaning) → Sound meaning (opening meaning)
sound_opening meaning t m h on = absurd (grind arith)

pub even_opening : (meaning : Meaning) → EvenIn meaning (opening meaning)
even_opening meaning =
    potential_even meaning (opening meaning) (sound_opening meaning) (opened (shop_in meaning (opening meaning)) position (placement (opening meaning)) (λ t h. refl))

-- a ticket that is off has no mills
off_of : (meaning : Meaning) (service : ℕ → Bool) (b : Bool) (o : Option Place) (m : ℕ) → mill_of meaning service (cond b None o) m ≡ true → mill_of meaning service o m ≡ true
off_of meaning service true o m may = absurd (false≢true may)
off_of meaning service false o m may = may

off_stood : (meaning : Meaning) (service : ℕ → Bool) (b : Bool) (o : Option Place) (m : ℕ) → mill_at (cond b None o) ≡ Some m
    → (mill_at o ≡ Some m) × ((k : ℕ) → mill_of meaning service (cond b None o) k ≡ mill_of meaning service o k)
off_stood meaning service true o m on = absurd (grind arith)
off_stood meaning service false o m on = (on, λ k. refl)

pub finished_off : (meaning : Meaning) (before : Tally) (t : ℕ) → Sound meaning before → Sound meaning (seated before t None)
finished_off meaning before t sound k m low on =
    let was = off_stood meaning before.service (eqb k t) (before.seat k) m on in
    let fits = sound k m low was.0 in
    (fits.0, was.1 m ∙ fits.1)

-- a ticket is finished: there is room for one on its mill
pub finishing : (meaning : Meaning) (before : Tally) → Sound meaning before → EvenIn meaning before → (t r : ℕ) → t < 1024 → placement before t ≡ Some r
    → (lean : Leaning meaning (seated before t None) r) × (lean.level r ≤ load (shop_in meaning (seated before t None)) (placement (seated before t None)) r + 2)
finishing meaning before sound even t r low on =
    let shop = shop_in meaning (seated before t None) in
    let start = removed_start (shop_in meaning before) position (λ m k h. omega arith) (placement before) sound t r low on (even_potential meaning before sound even) in
    let p = start.0 in
    subst (λ (at : Placement). (lean : Potential shop position at (λ m. m ≡ r)) × (lean.level r ≤ load shop at r + 2)) (sym (placement-seated before t None)) (
      record {
        level = p.level;
        last = p.last;
        next = p.next;
        rises = λ k a b less stands high may. p.rises k a b less stands high (off_of meaning before.service (eqb k t) (before.seat k) b may);
      },
      start.1,
    )

-- the mills of a ticket by another service
of_service : (meaning : Meaning) (service other : ℕ → Bool) (o : Option Place) (m : ℕ) → service m ≡ other m → mill_of meaning service o m ≡ mill_of meaning other o m
of_service meaning service other None m same = refl
of_service meaning service other (Some place) m same = ap (λ b. meaning.able place.program m && b) same

comes_off : (o : Option Place) (v m : ℕ) → mill_at o ≡ Some m → m ≡ v → mill_at (cond (stands_on (mill_at o) v) None o) ≡ None
comes_off o v m on e = ap mill_at (cond-true _ None o (ap (λ p. stands_on p v) on ∙ eq-eqb m v e))

stays_on : (o : Option Place) (v m : ℕ) → mill_at o ≡ Some m → (m ≡ v → ⊥) → cond (stands_on (mill_at o) v) None o ≡ o
stays_on o v m on ne = cond-false _ None o (ap (λ p. stands_on p v) on ∙ ne_eqb m v ne)

-- the mill v is withdrawn, with the tickets on it
module _ (meaning : Meaning) (before : Tally) (v : ℕ) where
  abbrev gone : Tally
  gone = serving (cleared before v) v false

  gone_stood : (t m : ℕ) → placement gone t ≡ Some m → (placement before t ≡ Some m) × (m ≡ v → ⊥)
  gone_stood t m on =
      let was = (off_stood meaning before.service (stands_on (placement before t) v) (before.seat t) m on).0 in
      (was, λ e. let z : ◌≡◌ {A = ℕ} 0 1 = cc (comes_off (before.seat t) v m was e) in omega arith)

  gone_serves : (m : ℕ) → gone.service m ≡ true → m ≡ v → ⊥
  gone_serves m on e = false≢true (sym (cond-true (eqb m v) false (before.service m) (eq-eqb m v e)) ∙ on)

  gone_other : (o : Option Place) (m : ℕ) → (m ≡ v → ⊥) → mill_of meaning gone.service o m ≡ mill_of meaning before.service o m
  gone_other o m ne = of_service meaning gone.service before.service o m (cond-false (eqb m v) false (before.service m) (ne_eqb m v ne))

  gone_able : (t m : ℕ) → mill_of meaning gone.service (gone.seat t) m ≡ true → (mill_of meaning before.service (before.seat t) m ≡ true) × (m ≡ v → ⊥)
  gone_able t m may =
      let could = off_of meaning gone.service (stands_on (placement before t) v) (before.seat t) m may in
      let apart = gone_serves m (serves_of meaning gone.service (before.seat t) m could) in
      (sym (gone_other (before.seat t) m apart) ∙ could, apart)

  pub sound_withdrawn : Sound meaning before → Sound meaning (serving (cleared before v) v false)
  sound_withdrawn sound t m low on =
      let was = gone_stood t m on in
      let fits = sound t m low was.0 in
      (fits.0, ap (λ o. mill_of meaning gone.service o m) (stays_on (before.seat t) v m was.0 was.1) ∙ gone_other (before.seat t) m was.1 ∙ fits.1)

pub withdrawing : (meaning : Meaning) (before : Tally) → Sound meaning before → EvenIn meaning before → (v : ℕ)
    → Sound meaning (serving (cleared before v) v false) × EvenIn meaning (serving (cleared before v) v false)
withdrawing meaning before sound even v =
    let gone = serving (cleared before v) v false in
    let after = sound_withdrawn meaning before v sound in
    let start = withdrawn_start (shop_in meaning before) (shop_in meaning gone) position (placement before) (placement gone) v refl refl (gone_able meaning before v)
    (λ t m low. gone_stood meaning before v t m)
    (λ t m low on ne. ap mill_at (stays_on (before.seat t) v m on ne) ∙ on)
    (even_potential meaning before sound even) in
    (after, potential_even meaning gone after start)

-- the mill r comes back
module _ (meaning : Meaning) (before : Tally) (r : ℕ) where
  abbrev back : Tally
  back = serving before r true

  pub sound_returned : Sound meaning before → Sound meaning (serving before r true)
  sound_returned sound t m low on =
      let fits = sound t m low on in
      let serves = serves_of meaning before.service (before.seat t) m fits.1 in
      let still : back.service m ≡ true = cond_both (eqb m r) true (before.service m) (λ b. b ≡ true) (λ e. refl) (λ e. serves) in
      (fits.0, of_service meaning back.service before.service (before.seat t) m (still ∙ sym serves) ∙ fits.1)

  back_able : (t m : ℕ) → mill_of meaning back.service (before.seat t) m ≡ true → (mill_of meaning before.service (before.seat t) m ≡ true) ⊎ (m ≡ r)
  back_able t m may =
      ⊎_elim
      (λ (e : m ≡ r). inr e)
      (λ (ne : m ≡ r → ⊥). inl (of_service meaning before.service back.service (before.seat t) m (sym (cond-false (eqb m r) true (before.service m) (ne_eqb m r ne))) ∙ may))
      (cases_eq m r)

pub returning : (meaning : Meaning) (before : Tally) → Sound meaning before → EvenIn meaning before → (r : ℕ) → before.service r ≡ false → Leaning meaning (serving before r true) r
returning meaning before sound even r out =
    let shop = shop_in meaning before in
    let empty = load_empty shop (placement before) r (λ t low on. true≢false (sym (serves_of meaning before.service (before.seat t) r (sound t r low on).1) ∙ out)) in
    returned_start shop (shop_in meaning (serving before r true)) position (placement before) r refl refl (back_able meaning before r) sound empty (even_potential meaning before sound even)
