-- What the edits of a table keep.
use Rattle.std.proofs.Common.{◌≡◌, ℕ, ◌+◌, ◌-◌, ◌<◌, ◌≤◌, min, Bool, true, false, cond, eqb, ltb, List, length, get_or, set, replicate, is_some, IfSome, Some, None, Option, sym, refl, ap, ◌∙◌, subst, ⊎_elim, arith}
use mathlib.Core.Path.{fun_ext}
use Rattle.std.specs.Option.{option_map}
use Rattle.std.proofs.lemmas.List.{get_or_past, get_or-replicate, get_or-set_same, get_or-set_other, length-replicate, length-set}
use Rattle.std.proofs.lemmas.Bool.{and_parts, cases_eq, cases_lt, cond-true, cond-false, eq-eqb, ne_eqb, ltb-true}
use Rattle.sets.specs.Sets.{has}
use Rattle.sets.specs.declared.number_set.NumberSet.{NumberSet}
use Rattle.capability.specs.Copied.{copied}
use Rattle.capability.specs.Meaning.{Meaning}
use Rattle.capability.specs.declared.abilities.Abilities.{Abilities}
use Rattle.semimatching.specs.Placements.{load}
use Rattle.semimatching.proofs.Loads.{share, load_empty, load-none, load-some}
use Rattle.table.specs.declared.seat.Seat.{Seat}
use Rattle.table.specs.declared.table.Table.{Table}
use Rattle.table.specs.Tally.{Tally, opening, placement, shop_in, mill_for, seated, serving}
use Rattle.table.specs.Seats.{place_of, tally_from, on_mill, share_of}
use Rattle.table.specs.Held.{meant, tally_of}
use Rattle.table.proofs.TallyLaws.{Able, able_seated, able_serving, load-seated, seated_same}
use Rattle.table.proofs.TableLaws.{seat_past, placed_few, placed_served, service_few}

-- ---- the table without tickets

-- what stands at each place of a list that repeats one value
repeated : {X : Type 0} (n k : ℕ) (x : X) → get_or (replicate n x) k x ≡ x
repeated n k x =
    ⊎_elim (λ (low : k < n). get_or-replicate n k x x low) (λ (past : n ≤ k). get_or_past (replicate n x) k x (omega (arith, length-replicate n x))) (cases_lt k n)

module _ (service : NumberSet) (n : ℕ) where
  abbrev empty : Tally
  empty = tally_from (replicate n None) service

  nobody : (t : ℕ) → empty.seat t ≡ None
  nobody t = ap (option_map place_of) (repeated n t None)

  nowhere : (t m : ℕ) → placement empty t ≡ Some m → ⊥
  nowhere t m on = let none = ap (option_map (λ place. place.mill)) (nobody t) in let z : ◌≡◌ {A = ℕ} 0 1 = cc in omega arith

  pub empty_able : (meaning : Meaning) → Able meaning empty
  empty_able meaning t m on = absurd (nowhere t m on)

  pub empty_counted : (meaning : Meaning) (k m : ℕ) → get_or (replicate k 0) m 0 ≡ on_mill (replicate n None) service m
  empty_counted meaning k m = repeated k m 0 ∙ sym (load_empty (shop_in meaning empty) (placement empty) m (λ t exists on. nowhere t m on))

  module _ (abilities : Abilities) (below : (m : ℕ) → has service m ≡ ltb m (min abilities.mills 64)) where
    all : (m : ℕ) → has service m ≡ ltb m abilities.mills
    all m = below m ∙ ap (ltb m) (omega (arith, abilities.lawful.few))

    pub empty_below : (m : ℕ) → has service m ≡ true → m < abilities.mills
    empty_below m serves = ltb-true m abilities.mills (sym (all m) ∙ serves)

    pub empty_tally : empty ≡ opening (copied abilities)
    empty_tally i = record { seat = fun_ext nobody i; service = fun_ext all i }

-- ---- a mill is put into service, or taken out

module _ (table : Table) (mill : ℕ) (serves : Bool)
    (opens : serves ≡ true → mill < (meant table).mills)
    (closes : serves ≡ false → load (shop_in (meant table) (tally_of table)) (placement (tally_of table)) mill ≡ 0)
    (service : NumberSet) (is : (m : ℕ) → has service m ≡ cond (eqb m mill) serves (has table.service m)) where
  served_tally : tally_from table.seats service ≡ serving (tally_of table) mill serves
  served_tally i = record { seat = (tally_of table).seat; service = fun_ext is i }

  stays : (t : ℕ) → placement (tally_of table) t ≡ Some mill → serves ≡ true
  stays t on = go serves refl
    where
      go : (b : Bool) → serves ≡ b → b ≡ true
      go true at = refl
      go false at = absurd (load-none (shop_in (meant table) (tally_of table)) (placement (tally_of table)) t mill (closes at) (placed_few table t mill on) on)

  pub served_below : (m : ℕ) → has service m ≡ true → m < (meant table).mills
  served_below m in_service =
      ⊎_elim
      (λ (same : m ≡ mill). omega (arith, opens (sym (cond-true (eqb m mill) serves (has table.service m) (eq-eqb m mill same)) ∙ sym (is m) ∙ in_service)))
      (λ (other : m ≡ mill → ⊥). table.below m (sym (cond-false (eqb m mill) serves (has table.service m) (ne_eqb m mill other)) ∙ sym (is m) ∙ in_service))
      (cases_eq m mill)

  pub served_able : Able (meant table) (tally_from table.seats service)
  served_able = subst (Able (meant table)) (sym served_tally) (able_serving (meant table) (tally_of table) mill serves table.able stays)

-- ---- a ticket is given another seat, or none

tally_set : (seats : List (Option Seat)) (service : NumberSet) (t : ℕ) (seat : Option Seat) → t < length seats → tally_from (set seats t seat) service ≡ seated (tally_from seats service) t (option_map place_of seat)
tally_set seats service t seat inside i = record { seat = fun_ext at i; service = has service }
  where
    at : (k : ℕ) → option_map place_of (get_or (set seats t seat) k None) ≡ cond (eqb k t) (option_map place_of seat) (option_map place_of (get_or seats k None))
    at k =
        ⊎_elim
        (λ (same : k ≡ t).
        ap (λ j. option_map place_of (get_or (set seats t seat) j None)) same ∙ ap (option_map place_of) (get_or-set_same seats t seat None inside) ∙ sym (cond-true (eqb k t) (option_map place_of seat) (option_map place_of (get_or seats k None)) (eq-eqb k t same)))
        (λ (other : k ≡ t → ⊥).
        ap (option_map place_of) (get_or-set_other seats t k seat None other) ∙ sym (cond-false (eqb k t) (option_map place_of seat) (option_map place_of (get_or seats k None)) (ne_eqb k t other)))
        (cases_eq k t)

-- a ticket of the seat's program may stand on the seat's mill
abbrev May : Table → Option Seat → Type 0
May table seat = IfSome seat (λ s. mill_for (meant table) (tally_of table).service s.program.0 s.mill.0 ≡ true)

module _ (table : Table) (t : ℕ) (exists : t < 1024) (seat : Option Seat) where
  pub reseated : tally_from (set table.seats t seat) table.service ≡ seated (tally_of table) t (option_map place_of seat)
  reseated = tally_set table.seats table.service t seat (omega (arith, table.whole))

  pub reseated_able : May table seat → Able (meant table) (tally_from (set table.seats t seat) table.service)
  reseated_able may = subst (Able (meant table)) (sym reseated) (able_seated (meant table) (tally_of table) t (option_map place_of seat) table.able (go seat may))
    where
      go : (s : Option Seat) → May table s → IfSome (option_map place_of s) (λ p. mill_for (meant table) (tally_of table).service p.program p.mill ≡ true)
      go None fits = tt
      go (Some s) fits = fits

  pub reseated_whole : length (set table.seats t seat) ≡ 1024
  reseated_whole = length-set table.seats t seat ∙ table.whole

  pub reseated_counted : (loads : List ℕ) → ((m : ℕ) → get_or loads m 0 + share (placement (tally_of table) t) m ≡ get_or table.loads m 0 + share_of seat m)
      → (m : ℕ) → get_or loads m 0 ≡ on_mill (set table.seats t seat) table.service m
  reseated_counted loads changed m =
      omega (
        arith,
        changed m,
        table.counted m,
        load-seated (meant table) (tally_of table) t (option_map place_of seat) exists m,
        ap (λ tally. load (shop_in (meant table) tally) (placement tally) m) reseated,
      )

pub changed_complete : (table : Table) (k load : ℕ) → length (set table.loads k load) ≡ 64
changed_complete table k load = length-set table.loads k load ∙ table.complete

-- ---- the loads, with one more or one fewer at a place

module _ (loads : List ℕ) (k : ℕ) (inside : k < length loads) (m : ℕ) where
  at_k : (load : ℕ) → m ≡ k → get_or (set loads k load) m 0 ≡ load
  at_k load here = ap (λ j. get_or (set loads k load) j 0) here ∙ get_or-set_same loads k load 0 inside

  pub one_more : get_or (set loads k (get_or loads k 0 + 1)) m 0 ≡ get_or loads m 0 + cond (eqb k m) 1 0
  one_more =
      ⊎_elim
      (λ (here : m ≡ k). omega (arith, at_k (get_or loads k 0 + 1) here, ap (λ j. get_or loads j 0) here, cond-true {A = ℕ} (eqb k m) 1 0 (eq-eqb k m (sym here))))
      (λ (other : m ≡ k → ⊥). omega (arith, get_or-set_other loads k m (get_or loads k 0 + 1) 0 other, cond-false {A = ℕ} (eqb k m) 1 0 (ne_eqb k m (λ e. other (sym e)))))
      (cases_eq m k)

  pub one_fewer : 0 < get_or loads k 0 → get_or (set loads k (get_or loads k 0 - 1)) m 0 + cond (eqb k m) 1 0 ≡ get_or loads m 0
  one_fewer some =
      ⊎_elim
      (λ (here : m ≡ k). omega (arith, at_k (get_or loads k 0 - 1) here, ap (λ j. get_or loads j 0) here, cond-true {A = ℕ} (eqb k m) 1 0 (eq-eqb k m (sym here))))
      (λ (other : m ≡ k → ⊥). omega (arith, get_or-set_other loads k m (get_or loads k 0 - 1) 0 other, cond-false {A = ℕ} (eqb k m) 1 0 (ne_eqb k m (λ e. other (sym e)))))
      (cases_eq m k)

-- ---- a ticket that does not stand is seated

pub may_few : (table : Table) (seat : Seat) → May table (Some seat) → seat.mill.0 < 64
may_few table seat may = service_few table seat.mill.0 (and_parts ((meant table).able seat.program.0 seat.mill.0) ((tally_of table).service seat.mill.0) may).1

pub put_counted : (table : Table) (t : ℕ) → t < 1024 → (tally_of table).seat t ≡ None → (seat : Seat) (k : ℕ) → k ≡ seat.mill.0 → k < length table.loads
    → (m : ℕ) → get_or (set table.loads k (get_or table.loads k 0 + 1)) m 0 ≡ on_mill (set table.seats t (Some seat)) table.service m
put_counted table t exists away seat k at inside =
    reseated_counted table t exists (Some seat) (set table.loads k (get_or table.loads k 0 + 1))
    (λ m. omega (arith, one_more table.loads k inside m, ap (λ stood. share (option_map (λ place. place.mill) stood) m) away, ap (λ j. cond {A = ℕ} (eqb j m) 1 0) at))

-- ---- a standing ticket is taken off

module _ (table : Table) (t : ℕ) (seat : Seat) (stood : Some (place_of seat) ≡ (tally_of table).seat t) where
  on : placement (tally_of table) t ≡ Some seat.mill.0
  on = ap (option_map (λ place. place.mill)) (sym stood)

  pub stood_few : seat.mill.0 < 64
  stood_few = service_few table seat.mill.0 (placed_served table t seat.mill.0 on)

  pub stood_exists : t < 1024
  stood_exists = placed_few table t seat.mill.0 on

  pub stood_some : 0 < get_or table.loads seat.mill.0 0
  stood_some =
      omega (arith, table.counted seat.mill.0, load-some (shop_in (meant table) (tally_of table)) (placement (tally_of table)) t seat.mill.0 stood_exists on)

  pub take_counted : (k : ℕ) → k ≡ seat.mill.0 → k < length table.loads → (m : ℕ) → get_or (set table.loads k (get_or table.loads k 0 - 1)) m 0 ≡ on_mill (set table.seats t None) table.service m
  take_counted k at inside =
      let some : 0 < get_or table.loads k 0 = omega (arith, stood_some, ap (λ j. get_or table.loads j 0) at) in
      reseated_counted table t stood_exists None (set table.loads k (get_or table.loads k 0 - 1))
      (λ m. omega (arith, one_fewer table.loads k inside m some, ap (λ place. share place m) on, ap (λ j. cond {A = ℕ} (eqb j m) 1 0) at))

-- a ticket from 1,024 on has no seat and gets none
pub reseated_past : (table : Table) (t : ℕ) (seat : Option Seat) → (is_some seat ≡ true → is_some ((tally_of table).seat t) ≡ false → t < 1024) → 1024 ≤ t → tally_of table ≡ seated (tally_of table) t (option_map place_of seat)
reseated_past table t None exists past = sym (seated_same (tally_of table) t) ∙ ap (seated (tally_of table) t) (seat_past table t past)
reseated_past table t (Some seat) exists past = absurd (omega (arith, exists refl (ap is_some (seat_past table t past))))
