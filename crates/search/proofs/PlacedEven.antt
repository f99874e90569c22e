-- A ticket that is placed by a route leaves the tally even, if it was.
use Rattle.std.proofs.Common.{◌≡◌, ℕ, Bool, true, false, cond, eqb, is_some, Some, None, Option, sym, refl, ap, ◌∙◌, subst}
use Rattle.std.specs.Option.{option_map}
use Rattle.std.proofs.lemmas.Bool.{false≢true}
use Rattle.capability.specs.Meaning.{Meaning}
use Rattle.semimatching.specs.Chains.{Step, moved, carried}
use Rattle.semimatching.specs.Placements.{SemiMatching}
use Rattle.semimatching.specs.Potentials.{Potential, None as NoMill}
use Rattle.semimatching.specs.Prices.{position}
use Rattle.semimatching.proofs.EvenFrom.{even_from_potential}
use Rattle.semimatching.proofs.Exactly.{least_no_chain}
use Rattle.semimatching.proofs.NoChain.{no_chain_potential}
use Rattle.semimatching.proofs.Starting.{same_shop}
use Rattle.table.specs.Tally.{Place, Tally, shop_in, placement, seated}
use Rattle.table.proofs.TallyLaws.{placement-moved, can_seated}
use Rattle.search.specs.declared.trail.Trail.{Trail}
use Rattle.search.specs.Routes.{Route}
use Rattle.search.specs.Rules.{shop_for, carried_out, EvenIn}
use Rattle.search.specs.Trails.{link_of, ticket_of, from_of}
use Rattle.search.proofs.CarriedOut.{out_can, Stand, placement_out, linked_stands}
use Rattle.search.proofs.PlaceSteps.{for_other, stands_other, Following, end_first, end_result}

-- a ticket that stands stands when another was seated too
seated_stands : (tally : Tally) (n : ℕ) (place : Place) (t m : ℕ) → placement tally t ≡ Some m → is_some ((seated tally n (Some place)).seat t) ≡ true
seated_stands tally n place t m on = go (eqb t n) (tally.seat t) on
  where
    go : (b : Bool) (seat : Option Place) → option_map (λ p. p.mill) seat ≡ Some m → is_some (cond b (Some place) seat) ≡ true
    go true seat on = refl
    go false None on = absurd (false≢true (ap is_some on))
    go false (Some p) on = refl

module _ (meaning : Meaning) (before : Tally) (n program : ℕ) (ticket : ℕ → ℕ) (from : ℕ → Option ℕ) (w : ℕ)
    (R : Route (shop_for meaning before n program) (placement before) n ticket from w) (away : before.seat n ≡ None)
    (semi : SemiMatching (shop_in meaning before) (placement before)) where
  abbrev place : Place
  place = record { program = program; mill = R.first }

  abbrev after : Tally
  after = carried_out (seated before n (Some place)) R.steps

  abbrev to_first : Step
  to_first = record { ticket = n; mill = R.first }

  stand : Stand (seated before n (Some place)) R.steps
  stand t i = let at = linked_stands _ _ _ _ _ R.placing.chain.linked t i in seated_stands before n place t at.0 at.1

  placed : placement after ≡ carried (moved (placement before) to_first) R.steps
  placed = placement_out (seated before n (Some place)) R.steps stand ∙ ap (λ at. carried at R.steps) (placement-moved before n place)

  could : (t m : ℕ) → (shop_in meaning after).can t m ≡ (shop_for meaning before n program).can t m
  could t m = out_can meaning (seated before n (Some place)) R.steps t m ∙ can_seated before n (Some place) meaning t m

  start : EvenIn meaning before → Potential (shop_for meaning before n program) position (placement before) NoMill
  start even =
      same_shop (shop_in meaning before) (shop_for meaning before n program) position (placement before) NoMill refl refl
      (λ t a b exists on low may. sym (for_other meaning before n program t b (stands_other meaning before n program away t a on)) ∙ may)
      (no_chain_potential _ _ semi (least_no_chain _ _ semi even.least))

  pub route_even : SemiMatching (shop_in meaning after) (placement after) → EvenIn meaning before → EvenIn meaning after
  route_even fits even =
      even_from_potential _ _ fits
      (same_shop (shop_for meaning before n program) (shop_in meaning after) position (placement after) NoMill refl refl
      (λ t a b exists on low may. sym (could t b) ∙ may)
      (subst (λ at. Potential (shop_for meaning before n program) position at NoMill) (sym placed) (R.keeps (start even))))

-- the same at the end of the links
pub end_even : (meaning : Meaning) (before : Tally) (n program : ℕ) (trail : Trail) {tally : Tally} {to : ℕ} (F : Following meaning before n program (ticket_of n trail) (from_of trail) tally to)
    (away : before.seat n ≡ None) (root : link_of trail to ≡ None) (after : Tally) (put : after ≡ seated tally n (Some (record { program = program; mill = to })))
    → SemiMatching (shop_in meaning before) (placement before) → SemiMatching (shop_in meaning after) (placement after) → EvenIn meaning before → EvenIn meaning after
end_even meaning before n program trail {to} F away root after put semi fits even =
    let is = end_result meaning before n program trail F away root after put
    ∙ ap (λ m. carried_out (seated before n (Some (record { program = program; mill = m }))) F.route.steps) (end_first meaning before n program trail F away root) in
    subst (EvenIn meaning) (sym is)
    (route_even meaning before n program (ticket_of n trail) (from_of trail) F.end F.route away semi (subst (λ k. SemiMatching (shop_in meaning k) (placement k)) is fits) even)
