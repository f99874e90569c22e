-- Carrying out a chain on a tally: the order of its steps does not matter, since each moves another ticket; a ticket keeps its program.
use Rattle.std.proofs.Common.{◌≡◌, ℕ, Bool, true, false, cond, eqb, List, [], ◌∷◌, ◌++◌, map, reverse, is_some, Some, None, Option, sym, refl, ap, ◌∙◌, inl, inr, arith}
use mathlib.Core.List.{reverse-cons}
use mathlib.Core.Path.{fun_ext}
use Rattle.std.specs.Option.{option_map}
use Rattle.std.proofs.lemmas.Bool.{eqb-true, false≢true}
use Rattle.capability.specs.Meaning.{Meaning}
use Rattle.semimatching.specs.Chains.{Step, Linked, mills_on, NotIn, Distinct, carried}
use Rattle.semimatching.specs.Placements.{Shop, Placement}
use Rattle.semimatching.proofs.Carrying.{In, in_apart}
use Rattle.semimatching.proofs.Places.{not_in}
use Rattle.table.specs.Tally.{Place, Tally, mill_of, shop_in, placement, seated}
use Rattle.search.specs.Rules.{relocated, carried_out}

-- ---- one seat

-- the seat of a ticket when it goes to a mill, or when another does
abbrev pub shifted : Bool → ℕ → Option Place → Option Place
shifted b mill seat = cond b (option_map (λ place. record { program = place.program; mill = mill }) seat) seat

shifted_swap : (b c : Bool) (m k : ℕ) (seat : Option Place) → (b ≡ true → c ≡ true → ⊥) → shifted b m (shifted c k seat) ≡ shifted c k (shifted b m seat)
shifted_swap true true m k seat apart = absurd (apart refl refl)
shifted_swap true false m k seat apart = refl
shifted_swap false true m k seat apart = refl
shifted_swap false false m k seat apart = refl

shifted_seated : (b c : Bool) (m : ℕ) (place seat : Option Place) → (b ≡ true → c ≡ true → ⊥) → cond b place (shifted c m seat) ≡ shifted c m (cond b place seat)
shifted_seated true true m place seat apart = absurd (apart refl refl)
shifted_seated true false m place seat apart = refl
shifted_seated false true m place seat apart = refl
shifted_seated false false m place seat apart = refl

shifted_mill : (b : Bool) (m : ℕ) (seat : Option Place) → (b ≡ true → is_some seat ≡ true)
    → option_map (λ place. place.mill) (shifted b m seat) ≡ cond b (Some m) (option_map (λ place. place.mill) seat)
shifted_mill true m None stands = absurd (false≢true (stands refl))
shifted_mill true m (Some place) stands = refl
shifted_mill false m seat stands = refl

shifted_stands : (b : Bool) (m : ℕ) (seat : Option Place) → is_some (shifted b m seat) ≡ is_some seat
shifted_stands true m None = refl
shifted_stands true m (Some place) = refl
shifted_stands false m seat = refl

shifted_may : (meaning : Meaning) (service : ℕ → Bool) (b : Bool) (m : ℕ) (seat : Option Place) (k : ℕ) → mill_of meaning service (shifted b m seat) k ≡ mill_of meaning service seat k
shifted_may meaning service true m None k = refl
shifted_may meaning service true m (Some place) k = refl
shifted_may meaning service false m seat k = refl

same_ticket : (t a b : ℕ) → eqb t a ≡ true → eqb t b ≡ true → a ≡ b
same_ticket t a b p q = sym (eqb-true t a p) ∙ eqb-true t b q

-- ---- one step

same_tally : (tally other : Tally) → ((t : ℕ) → tally.seat t ≡ other.seat t) → tally.service ≡ other.service → tally ≡ other
same_tally tally other seats service i = record { seat = fun_ext seats i; service = service i }

relocated-swap : (tally : Tally) (r s : Step) → (r.ticket ≡ s.ticket → ⊥) → relocated (relocated tally r) s ≡ relocated (relocated tally s) r
relocated-swap tally r s apart =
    same_tally _ _ (λ t. shifted_swap (eqb t s.ticket) (eqb t r.ticket) s.mill r.mill (tally.seat t) (λ p q. apart (same_ticket t r.ticket s.ticket q p))) refl

relocated-seated : (tally : Tally) (n : ℕ) (place : Option Place) (s : Step) → (n ≡ s.ticket → ⊥) → seated (relocated tally s) n place ≡ relocated (seated tally n place) s
relocated-seated tally n place s apart =
    same_tally _ _ (λ t. shifted_seated (eqb t n) (eqb t s.ticket) s.mill place (tally.seat t) (λ p q. apart (same_ticket t n s.ticket p q))) refl

-- a ticket that stands, and goes to a mill
pub seated-relocated : (tally : Tally) (s : Step) (place : Place) → tally.seat s.ticket ≡ Some place
    → seated tally s.ticket (Some (record { program = place.program; mill = s.mill })) ≡ relocated tally s
seated-relocated tally s place stands = same_tally _ _ (λ t. at t (eqb t s.ticket) (λ e. ap tally.seat (eqb-true t s.ticket e) ∙ stands)) refl
  where
    at : (t : ℕ) (b : Bool) → (b ≡ true → tally.seat t ≡ Some place) → cond b (Some (record { program = place.program; mill = s.mill })) (tally.seat t) ≡ shifted b s.mill (tally.seat t)
    at t true here = sym (ap (option_map (λ p. record { program = p.program; mill = s.mill })) (here refl))
    at t false here = refl

-- ---- all steps of a chain

abbrev pub tickets : List Step → List ℕ
tickets steps = map (λ s. s.ticket) steps

pub out_push : (tally : Tally) (steps : List Step) (s : Step) → carried_out tally (steps ++ (s ∷ [])) ≡ relocated (carried_out tally steps) s
out_push tally [] s = refl
out_push tally (r ∷ steps) s = out_push (relocated tally r) steps s

out_later : (tally : Tally) (s : Step) (steps : List Step) → NotIn s.ticket (tickets steps) → relocated (carried_out tally steps) s ≡ carried_out (relocated tally s) steps
out_later tally s [] apart = refl
out_later tally s (r ∷ steps) apart =
    out_later (relocated tally r) s steps apart.1 ∙ ap (λ k. carried_out k steps) (relocated-swap tally r s (λ e. apart.0 (sym e)))

-- the last step may come first
pub out_reverse : (tally : Tally) (steps : List Step) → Distinct (tickets steps) → carried_out tally (reverse steps) ≡ carried_out tally steps
out_reverse tally [] once = refl
out_reverse tally (s ∷ steps) once =
    ap (carried_out tally) (reverse-cons s steps) ∙ out_push tally (reverse steps) s ∙ ap (λ k. relocated k s) (out_reverse tally steps once.1) ∙ out_later tally s steps once.0

-- another ticket may be seated before or after
pub out_seated : (tally : Tally) (n : ℕ) (place : Option Place) (steps : List Step) → NotIn n (tickets steps) → seated (carried_out tally steps) n place ≡ carried_out (seated tally n place) steps
out_seated tally n place [] apart = refl
out_seated tally n place (s ∷ steps) apart =
    out_seated (relocated tally s) n place steps apart.1 ∙ ap (λ k. carried_out k steps) (relocated-seated tally n place s apart.0)

pub out_service : (tally : Tally) (steps : List Step) → (carried_out tally steps).service ≡ tally.service
out_service tally [] = refl
out_service tally (s ∷ steps) = out_service (relocated tally s) steps

-- each ticket may stand on the mills that it could
pub out_can : (meaning : Meaning) (tally : Tally) (steps : List Step) (t m : ℕ) → (shop_in meaning (carried_out tally steps)).can t m ≡ (shop_in meaning tally).can t m
out_can meaning tally [] t m = refl
out_can meaning tally (s ∷ steps) t m = out_can meaning (relocated tally s) steps t m ∙ shifted_may meaning tally.service (eqb t s.ticket) s.mill (tally.seat t) m

pub shop_out : (meaning : Meaning) (tally : Tally) (steps : List Step) → shop_in meaning (carried_out tally steps) ≡ shop_in meaning tally
shop_out meaning tally steps =
    ap {A = ℕ → ℕ → Bool} {B = Shop} (λ can. record { tickets = 1024; mills = 64; can = can }) (fun_ext (λ t. fun_ext (λ m. out_can meaning tally steps t m)))

-- a ticket that does not stand does not come to stand
pub out_none : (tally : Tally) (steps : List Step) (t : ℕ) → tally.seat t ≡ None → (carried_out tally steps).seat t ≡ None
out_none tally [] t away = away
out_none tally (s ∷ steps) t away = out_none (relocated tally s) steps t (ap (shifted (eqb t s.ticket) s.mill) away ∙ none (eqb t s.ticket))
  where
    none : (b : Bool) → shifted b s.mill None ≡ None
    none true = refl
    none false = refl

-- every ticket of the steps stands
abbrev pub Stand : Tally → List Step → Type 0
Stand tally steps = (t : ℕ) → In t (tickets steps) → is_some (tally.seat t) ≡ true

-- the placement goes with the tally
pub placement_out : (tally : Tally) (steps : List Step) → Stand tally steps → placement (carried_out tally steps) ≡ carried (placement tally) steps
placement_out tally [] stand = refl
placement_out tally (s ∷ steps) stand =
    placement_out (relocated tally s) steps (λ t i. shifted_stands (eqb t s.ticket) s.mill (tally.seat t) ∙ stand t (inr i))
    ∙ ap (λ at. carried at steps) (fun_ext (λ t. shifted_mill (eqb t s.ticket) s.mill (tally.seat t) (λ e. stand t (inl (eqb-true t s.ticket e)))))

-- ---- the tickets of a chain

-- each of them stands on one of its mills
pub linked_stands : (shop : Shop) (at : Placement) (v : ℕ) (steps : List Step) (w : ℕ) → Linked shop at v steps w → (t : ℕ) → In t (tickets steps) → (m : ℕ) × (at t ≡ Some m) × In m (mills_on v steps)
linked_stands shop at v [] w l t i = absurd i
linked_stands shop at v (s ∷ steps) w l t (inl e) = (v, ap at e ∙ l.1, inl refl)
linked_stands shop at v (s ∷ steps) w l t (inr i) = let rest = linked_stands shop at s.mill steps w l.4 t i in (rest.0, rest.1, inr rest.2)

some_same : {A : Type 0} {x y : A} → ◌≡◌ {A = Option A} (Some x) (Some y) → x ≡ y
some_same e = cc

-- they all differ, since their mills do
pub linked_tickets : (shop : Shop) (at : Placement) (v : ℕ) (steps : List Step) (w : ℕ) → Linked shop at v steps w → Distinct (mills_on v steps) → Distinct (tickets steps)
linked_tickets shop at v [] w l once = tt
linked_tickets shop at v (s ∷ steps) w l once = (
  not_in s.ticket (tickets steps) (λ i.
      let later = linked_stands shop at s.mill steps w l.4 s.ticket i in
      in_apart later.0 v _ once.0 later.2 (some_same (sym later.1 ∙ l.1))),
  linked_tickets shop at s.mill steps w l.4 once.1,
)

-- a ticket that does not stand is none of them
pub linked_others : (shop : Shop) (at : Placement) (v : ℕ) (steps : List Step) (w : ℕ) → Linked shop at v steps w → (n : ℕ) → at n ≡ None → NotIn n (tickets steps)
linked_others shop at v steps w l n away = not_in n (tickets steps) (λ i. none (linked_stands shop at v steps w l n i).1)
  where
    none : {m : ℕ} → at n ≡ Some m → ⊥
    none stands = cc

pub some_seat : (seat : Option Place) (m : ℕ) → option_map (λ place. place.mill) seat ≡ Some m → is_some seat ≡ true
some_seat None m on = absurd (grind arith)
some_seat (Some place) m on = refl

-- where the tickets stand when a chain is carried out
pub chain_out : (shop : Shop) (tally : Tally) (v : ℕ) (steps : List Step) (w : ℕ) → Linked shop (placement tally) v steps w → placement (carried_out tally steps) ≡ carried (placement tally) steps
chain_out shop tally v steps w linked =
    placement_out tally steps (λ t i. let at = linked_stands shop (placement tally) v steps w linked t i in some_seat (tally.seat t) at.0 at.1)
