-- What seating a ticket or serving a mill does to a tally: to the placement, to the mills that a ticket may stand on, and to
-- how many tickets stand.
use Rattle.std.proofs.Common.{◌≡◌, ℕ, ◌+◌, ◌<◌, ◌≤◌, Bool, true, false, cond, ◌&&◌, eqb, is_some, IfSome, Some, None, Option, sym, refl, ap, ◌∙◌, arith}
use mathlib.Core.Path.{fun_ext}
use Rattle.std.specs.Option.{option_map}
use Rattle.std.proofs.lemmas.Bool.{and_parts, cond-true, cond-false, eq-eqb, ne_eqb, eqb-true, false≢true}
use Rattle.capability.specs.Meaning.{Meaning}
use Rattle.semimatching.specs.Chains.{moved}
use Rattle.semimatching.specs.Placements.{load}
use Rattle.semimatching.proofs.Loads.{share, put, load-put}
use Rattle.semimatching.proofs.Sums.{sum_change, count_le}
use Rattle.table.specs.Tally.{Place, Tally, mill_for, mill_of, shop_in, placement, standing, seated, serving}

-- ---- a choice between two values

option_map-cond : {A B : Type 0} (f : A → B) (b : Bool) (x y : Option A) → option_map f (cond b x y) ≡ cond b (option_map f x) (option_map f y)
option_map-cond f true x y = refl
option_map-cond f false x y = refl

cond_other : {A : Type 0} (b : Bool) (x y : A) → (b ≡ true → x ≡ y) → cond b x y ≡ y
cond_other true x y same = same refl
cond_other false x y same = refl

-- ---- what is so of every tally

pub standing_few : (tally : Tally) → standing tally ≤ 1024
standing_few tally = count_le 1024 (λ t. is_some (tally.seat t))

-- a ticket that stands has a place
pub place_of : (tally : Tally) (t m : ℕ) → placement tally t ≡ Some m → (place : Place) × (tally.seat t ≡ Some place) × (place.mill ≡ m)
place_of tally t m on = go (tally.seat t) refl on
  where
    go : (seat : Option Place) → tally.seat t ≡ seat → option_map (λ place. place.mill) seat ≡ Some m → (place : Place) × (tally.seat t ≡ Some place) × (place.mill ≡ m)
    go None is on = let z : ◌≡◌ {A = ℕ} 0 1 = cc in absurd (omega arith)
    go (Some place) is on = (place, is, cc)

-- ---- a ticket is seated at a place, or taken off

module _ (tally : Tally) (t : ℕ) (place : Option Place) where
  pub placement-seated : (k : ℕ) → placement (seated tally t place) k ≡ cond (eqb k t) (option_map (λ p. p.mill) place) (placement tally k)
  placement-seated k = option_map-cond (λ p. p.mill) (eqb k t) place (tally.seat k)

  pub placement-put : placement (seated tally t place) ≡ put (placement tally) t (option_map (λ p. p.mill) place)
  placement-put = fun_ext placement-seated

  pub can_seated : (meaning : Meaning) (k m : ℕ) → (shop_in meaning (seated tally t place)).can k m ≡ cond (eqb k t) (mill_of meaning tally.service place m) ((shop_in meaning tally).can k m)
  can_seated meaning k m = go (eqb k t)
    where
      go : (b : Bool) → mill_of meaning tally.service (cond b place (tally.seat k)) m ≡ cond b (mill_of meaning tally.service place m) ((shop_in meaning tally).can k m)
      go true = refl
      go false = refl

  pub standing-seated : t < 1024 → standing (seated tally t place) + cond (is_some (tally.seat t)) 1 0 ≡ standing tally + cond (is_some place) 1 0
  standing-seated exists =
      let stands : Option Place → ℕ = λ seat. cond (is_some seat) 1 0 in
      omega (
        arith,
        sum_change 1024 (λ k. stands (tally.seat k)) (λ k. stands ((seated tally t place).seat k)) t exists (λ k l other. ap stands (cond-false (eqb k t) place (tally.seat k) (ne_eqb k t other))),
        ap stands (cond-true (eqb t t) place (tally.seat t) (eq-eqb t t refl)),
      )

-- a load loses what the ticket's old place gave it, and gains what the new one gives
pub load-seated : (meaning : Meaning) (tally : Tally) (t : ℕ) (place : Option Place) → t < 1024 → (m : ℕ)
    → load (shop_in meaning (seated tally t place)) (placement (seated tally t place)) m + share (placement tally t) m ≡ load (shop_in meaning tally) (placement tally) m + share (option_map (λ p. p.mill) place) m
load-seated meaning tally t place exists m =
    omega (
      arith,
      load-put (shop_in meaning tally) (placement tally) t (option_map (λ p. p.mill) place) exists m,
      ap (λ at. load (shop_in meaning tally) at m) (placement-put tally t place),
    )

pub placement-moved : (tally : Tally) (t : ℕ) (place : Place) → placement (seated tally t (Some place)) ≡ moved (placement tally) (record { ticket = t; mill = place.mill })
placement-moved tally t place = placement-put tally t (Some place)

-- one more stands, one fewer, or as many
module _ (tally : Tally) (t : ℕ) (exists : t < 1024) where
  abbrev stands : Option Place → ℕ
  stands seat = cond (is_some seat) 1 0

  pub standing_added : (place : Place) → tally.seat t ≡ None → standing (seated tally t (Some place)) ≡ standing tally + 1
  standing_added place away = omega (arith, standing-seated tally t (Some place) exists, ap stands away)

  pub standing_taken : (place : Place) → tally.seat t ≡ Some place → standing (seated tally t None) + 1 ≡ standing tally
  standing_taken place at = omega (arith, standing-seated tally t None exists, ap stands at)

  pub standing_shifted : (place other : Place) → tally.seat t ≡ Some place → standing (seated tally t (Some other)) ≡ standing tally
  standing_shifted place other at = omega (arith, standing-seated tally t (Some other) exists, ap stands at)

-- a ticket that is seated where it is
pub seated_same : (tally : Tally) (t : ℕ) → seated tally t (tally.seat t) ≡ tally
seated_same tally t i = record { seat = fun_ext (λ k. cond_other (eqb k t) (tally.seat t) (tally.seat k) (λ e. ap tally.seat (sym (eqb-true k t e)))) i; service = tally.service }

-- a ticket that is taken off and seated anew
pub seated_twice : (tally : Tally) (t : ℕ) (first second : Option Place) → seated (seated tally t first) t second ≡ seated tally t second
seated_twice tally t first second i = record { seat = fun_ext (λ k. twice (eqb k t) (tally.seat k)) i; service = tally.service }
  where
    twice : (b : Bool) (stood : Option Place) → cond b second (cond b first stood) ≡ cond b second stood
    twice true stood = refl
    twice false stood = refl

-- a ticket that keeps its program may stand on the mills that it could
pub shop_shifted : (meaning : Meaning) (tally : Tally) (t : ℕ) (place : Place) → tally.seat t ≡ Some place → (mill : ℕ) → shop_in meaning (seated tally t (Some (record { program = place.program; mill = mill }))) ≡ shop_in meaning tally
shop_shifted meaning tally t place at mill i = record { tickets = 1024; mills = 64; can = fun_ext (λ k. fun_ext (λ m. same k m)) i }
  where
    same : (k m : ℕ) → (shop_in meaning (seated tally t (Some (record { program = place.program; mill = mill })))).can k m ≡ (shop_in meaning tally).can k m
    same k m =
        can_seated tally t (Some (record { program = place.program; mill = mill })) meaning k m
        ∙ cond_other (eqb k t) (mill_for meaning tally.service place.program m) ((shop_in meaning tally).can k m)
        (λ e. sym (ap (λ seat. mill_of meaning tally.service seat m) (ap tally.seat (eqb-true k t e) ∙ at)))

-- ---- a mill is put into service, or taken out

pub placement-serving : (tally : Tally) (mill : ℕ) (serves : Bool) → placement (serving tally mill serves) ≡ placement tally
placement-serving tally mill serves = refl

-- of a mill that keeps its service nothing changes
pub can_serving : (meaning : Meaning) (tally : Tally) (mill : ℕ) (serves : Bool) (k m : ℕ) → (m ≡ mill → serves ≡ tally.service m)
    → (shop_in meaning (serving tally mill serves)).can k m ≡ (shop_in meaning tally).can k m
can_serving meaning tally mill serves k m same = go (tally.seat k)
  where
    go : (seat : Option Place) → mill_of meaning (serving tally mill serves).service seat m ≡ mill_of meaning tally.service seat m
    go None = refl
    go (Some place) = ap (λ s. meaning.able place.program m && s) (cond_other (eqb m mill) serves (tally.service m) (λ e. same (eqb-true m mill e)))

-- ---- every standing ticket is on a mill that is able for its program and in service

abbrev pub Able : Meaning → Tally → Type 0
Able meaning tally = (t m : ℕ) → placement tally t ≡ Some m → (shop_in meaning tally).can t m ≡ true

-- that mill is in service
pub able_served : (meaning : Meaning) (tally : Tally) → Able meaning tally → (t m : ℕ) → placement tally t ≡ Some m → tally.service m ≡ true
able_served meaning tally able t m on = go (tally.seat t) (able t m on)
  where
    go : (seat : Option Place) → mill_of meaning tally.service seat m ≡ true → tally.service m ≡ true
    go None can = absurd (false≢true can)
    go (Some place) can = (and_parts (meaning.able place.program m) (tally.service m) can).1

pub able_seated : (meaning : Meaning) (tally : Tally) (t : ℕ) (place : Option Place) → Able meaning tally
    → IfSome place (λ p. mill_for meaning tally.service p.program p.mill ≡ true) → Able meaning (seated tally t place)
able_seated meaning tally t place able may k m on =
    can_seated tally t place meaning k m ∙ go (eqb k t) (sym (placement-seated tally t place k) ∙ on)
  where
    new : (p : Option Place) → IfSome p (λ q. mill_for meaning tally.service q.program q.mill ≡ true) → option_map (λ q. q.mill) p ≡ Some m → mill_of meaning tally.service p m ≡ true
    new None fits on = let z : ◌≡◌ {A = ℕ} 0 1 = cc in absurd (omega arith)
    new (Some p) fits on = let same : m ≡ p.mill = cc in ap (mill_for meaning tally.service p.program) same ∙ fits

    go : (b : Bool) → cond b (option_map (λ p. p.mill) place) (placement tally k) ≡ Some m → cond b (mill_of meaning tally.service place m) ((shop_in meaning tally).can k m) ≡ true
    go true here = new place may here
    go false other = able k m other

-- a mill that has a ticket stays in service
pub able_serving : (meaning : Meaning) (tally : Tally) (mill : ℕ) (serves : Bool) → Able meaning tally → ((t : ℕ) → placement tally t ≡ Some mill → serves ≡ true)
    → Able meaning (serving tally mill serves)
able_serving meaning tally mill serves able stays t m on =
    can_serving meaning tally mill serves t m (λ same. stays t (on ∙ ap Some same) ∙ sym (able_served meaning tally able t m on)) ∙ able t m on
