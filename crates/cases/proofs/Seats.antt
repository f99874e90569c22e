-- What one seated ticket adds: to the loads, to the number of tickets that stand, and to who stands where.
use Rattle.std.proofs.Common.{◌≡◌, ℕ, ◌+◌, ◌<◌, ◌≤◌, Bool, cond, eqb, ◌⊎◌, is_some, Some, None, Option, sym, refl, ap, ◌∙◌, inl, inr, ⊎_elim, arith}
use Rattle.std.proofs.lemmas.Bool.{cases_eq, cond-true, cond-false, cond_both, eq-eqb, ne_eqb}
use Rattle.capability.specs.Meaning.{Meaning}
use Rattle.semimatching.specs.Placements.{Shop, Placement, load}
use Rattle.semimatching.proofs.Loads.{put, load_placed, load_removed, load-some}
use Rattle.semimatching.proofs.Sums.{sum_change}
use Rattle.table.specs.Tally.{Place, Tally, shop_in, placement, seated, standing}
use Rattle.board.proofs.TallyLaws.{mill_at, placement-seated}

-- a seat on a mill, with a program
abbrev pub on_mill : ℕ → ℕ → Option Place
on_mill program mill = Some (record { program = program; mill = mill })

-- a mill's load in a tally
abbrev pub load_in : Meaning → Tally → ℕ → ℕ
load_in meaning tally m = load (shop_in meaning tally) (placement tally) m

pub load-seated : (meaning : Meaning) (tally : Tally) (t p u : ℕ) → t < 1024 → tally.seat t ≡ None → (m : ℕ) → load_in meaning (seated tally t (on_mill p u)) m ≡ load_in meaning tally m + cond (eqb m u) 1 0
load-seated meaning tally t p u low off m =
    ap (λ at. load (shop_in meaning tally) at m) (placement-seated tally t (on_mill p u)) ∙ load_placed (shop_in meaning tally) (placement tally) t u low (ap mill_at off) m

pub standing-seated : (tally : Tally) (t : ℕ) (o : Option Place) → t < 1024 → standing (seated tally t o) ≤ standing tally + 1
standing-seated tally t o low =
    let one : (b : Bool) → cond b 1 0 ≤ 1 = λ b. cond_both b 1 0 (λ n. n ≤ 1) (λ _. omega arith) (λ _. omega arith) in
    omega (
      arith,
      sum_change 1024 (λ k. cond (is_some (tally.seat k)) 1 0) (λ k. cond (is_some ((seated tally t o).seat k)) 1 0) t low
          (λ k less other. ap (λ s. cond (is_some s) 1 0) (cond-false (eqb k t) o (tally.seat k) (ne_eqb k t other))),
      one (is_some ((seated tally t o).seat t)),
    )

-- a choice by a number is the first at that number, and else the second
pub chosen : {A : Type 0} (k t : ℕ) (x y z : A) → cond (eqb k t) x y ≡ z → ((k ≡ t) × (x ≡ z)) ⊎ (y ≡ z)
chosen k t x y z is =
    ⊎_elim
    (λ (here : k ≡ t). inl (here, sym (cond-true (eqb k t) x y (eq-eqb k t here)) ∙ is))
    (λ (other : k ≡ t → ⊥). inr (sym (cond-false (eqb k t) x y (ne_eqb k t other)) ∙ is))
    (cases_eq k t)

-- the place of a ticket that stands on a mill
pub seat_on : (o : Option Place) (m : ℕ) → mill_at o ≡ Some m → (place : Place) × (o ≡ Some place) × (place.mill ≡ m)
seat_on None m on = absurd (grind arith)
seat_on (Some place) m on = (place, refl, cc)

-- two tickets on one mill
pub load_two : (shop : Shop) (at : Placement) (t u m : ℕ) → t < shop.tickets → u < shop.tickets → (u ≡ t → ⊥) → at t ≡ Some m → at u ≡ Some m → 2 ≤ load shop at m
load_two shop at t u m low less other on also =
    omega (
      arith,
      load_removed shop at t m low on m,
      ap {B = ℕ} (λ b. cond b 1 0) (eq-eqb m m refl),
      load-some shop (put at t None) u m less (cond-false (eqb u t) None (at u) (ne_eqb u t other) ∙ also),
    )
