-- A tally in which tickets go to other mills: where they stand, and that their programs stay.
use Rattle.std.proofs.Common.{◌≡◌, ℕ, List, [], ◌∷◌, Some, None, Option, sym, refl, ap, ◌∙◌, subst, inl, inr}
use Rattle.std.specs.Option.{option_map}
use Rattle.semimatching.specs.Placements.{Shop}
use Rattle.semimatching.specs.Chains.{Step, Chain, moved}
use Rattle.semimatching.proofs.Carrying.{chain_rest}
use Rattle.table.specs.Tally.{Place, Tally, placement}
use Rattle.search.specs.Rules.{relocated}
use Rattle.search.proofs.CarriedOut.{Stand, placement_out, some_seat}

-- a standing ticket that goes to a mill
pub relocated-moved : (tally : Tally) (s : Step) (v : ℕ) → placement tally s.ticket ≡ Some v → placement (relocated tally s) ≡ moved (placement tally) s
relocated-moved tally s v stands = placement_out tally (s ∷ []) one
  where
    one : Stand tally (s ∷ [])
    one t (inl e) = some_seat (tally.seat t) v (ap (placement tally) e ∙ stands)
    one t (inr i) = absurd i

-- the rest of a chain when its first ticket has gone on
pub relocated_rest : (shop : Shop) (tally : Tally) (v : ℕ) (s : Step) (ss : List Step) (w : ℕ) → Chain shop (placement tally) v (s ∷ ss) w → Chain shop (placement (relocated tally s)) s.mill ss w
relocated_rest shop tally v s ss w c =
    subst (λ at. Chain shop at s.mill ss w) (sym (relocated-moved tally s v c.linked.1)) (chain_rest shop (placement tally) v s ss w c)

-- the seat of a ticket that stands
pub standing_place : (tally : Tally) (t v : ℕ) → placement tally t ≡ Some v → (place : Place) × (tally.seat t ≡ Some place)
standing_place tally t v stands = one (tally.seat t) refl stands
  where
    one : (o : Option Place) → tally.seat t ≡ o → option_map (λ place. place.mill) o ≡ Some v → (place : Place) × (tally.seat t ≡ Some place)
    one None e stands = absurd (cc)
    one (Some place) e stands = (place, e)
