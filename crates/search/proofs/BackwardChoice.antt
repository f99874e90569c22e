-- The search back from a mill is done: the chain that is carried out, and what it does to the tally.
use Rattle.std.proofs.Common.{◌≡◌, ℕ, ◌+◌, ◌<◌, ◌≤◌, true, List, length, get_or, sym, subst, subst₂, arith}
use Rattle.capability.specs.Meaning.{Meaning}
use Rattle.semimatching.specs.Chains.{Step, carried}
use Rattle.semimatching.specs.Even.{Even}
use Rattle.semimatching.specs.Placements.{Shop, Placement, SemiMatching, load}
use Rattle.semimatching.specs.Potentials.{Potential}
use Rattle.semimatching.specs.Prices.{position}
use Rattle.semimatching.specs.Searches.{Backward}
use Rattle.semimatching.proofs.BackwardSearch.{ChosenBack, choose_greatest, none_improving, finish_potential, shift_potential, shift_last_potential}
use Rattle.semimatching.proofs.Carrying.{In, carried_semi}
use Rattle.semimatching.proofs.EvenFrom.{even_from_potential}
use Rattle.semimatching.proofs.Places.{in_place}
use Rattle.semimatching.proofs.SearchSteps.{looked_at, all_looked}
use Rattle.table.specs.Tally.{Tally, shop_in, placement}
use Rattle.search.specs.declared.trail.Trail.{Trail}
use Rattle.search.specs.BackSearches.{Sought, Way, WayOn}
use Rattle.search.specs.Firsts.{Greatest}
use Rattle.search.proofs.FirstSteps.{greatest_at, greatest_before}
use Rattle.search.specs.Rules.{carried_out, ShiftedByRule, NothingToShift, EvenIn, Leaning}
use Rattle.search.specs.Trails.{queue_of}
use Rattle.search.proofs.BackwardSteps.{sought_mills}
use Rattle.search.proofs.CarriedOut.{shop_out, chain_out}
use Rattle.search.proofs.BackwardWays.{way_back}

module _ {meaning : Meaning} {tally : Tally} {mill : ℕ} {trail : Trail} (S : Sought meaning tally mill trail (length (queue_of trail)) 0)
    (semi : SemiMatching (shop_in meaning tally) (placement tally))
    {from : ℕ} (G : Greatest (load (shop_in meaning tally) (placement tally)) (queue_of trail) from) where
  abbrev shop : Shop
  shop = shop_in meaning tally

  abbrev at : Placement
  at = placement tally

  all : (x : ℕ) (s : Step) → In x (queue_of trail) → Backward shop at x s → looked_at (length (queue_of trail)) 0 0 (queue_of trail) x s ≡ true
  all = all_looked S.searched (omega arith)

  greatest : (j : ℕ) → j < length (queue_of trail) → load shop at (get_or (queue_of trail) j 0) ≤ load shop at from
  greatest j low = greatest_at (load shop at) (queue_of trail) from G j low

  under : G.place < length (queue_of trail)
  under = G.best.0

  from_in : In from (queue_of trail)
  from_in = subst (λ k. In k (queue_of trail)) G.is (in_place (queue_of trail) G.place under)

  -- the mill of the greatest load has too little
  module _ (few : load shop at from < load shop at mill + 2) where
    low_loads : (j : ℕ) → j < length (queue_of trail) → load shop at (get_or (queue_of trail) j 0) ≤ load shop at mill + 1
    low_loads j low = omega (arith, greatest j low)

    pub nothing_left : NothingToShift meaning tally mill
    nothing_left = none_improving shop at mill S.searched.found all low_loads

    pub settled : Leaning meaning tally mill → EvenIn meaning tally
    settled lean = even_from_potential shop at semi (finish_potential shop at mill S.searched.found all lean low_loads)

  -- a chain improves
  module _ (better : load shop at mill + 2 ≤ load shop at from) where
    chosen : ChosenBack shop at mill (S.path from) from
    chosen = choose_greatest shop at mill S.searched.found all G.place from under G.is (sought_mills S from from_in) better greatest (greatest_before (load shop at) (queue_of trail) from G)

    way : Way trail from chosen.steps
    way = way_back S from chosen.steps from_in chosen.shifting.chain.linked chosen.is

    pub chosen_on : WayOn meaning tally trail from
    chosen_on = record { mill = mill; steps = chosen.steps; chain = chosen.shifting.chain; way = way }

    -- it is carried out
    module _ {after : Tally} (is : (steps : List Step) → Way trail from steps → after ≡ carried_out tally steps) where
      result : after ≡ carried_out tally chosen.steps
      result = is chosen.steps way

      pub shifted : ShiftedByRule meaning tally mill after
      shifted = record { from = from; steps = chosen.steps; choice = chosen.shifting; result = result }

      landed : (P : Shop → Placement → Type 0) → P shop (carried at chosen.steps) → P (shop_in meaning after) (placement after)
      landed P p =
          subst (λ t. P (shop_in meaning t) (placement t)) (sym result)
          (subst₂ P (sym (shop_out meaning tally chosen.steps)) (sym (chain_out shop tally from chosen.steps mill chosen.shifting.chain.linked)) p)

      pub leaning_on : Leaning meaning tally mill → Leaning meaning after mill
      leaning_on lean = landed (λ s p. Potential s position p (λ m. m ≡ mill)) (shift_potential shop at mill S.searched.found all lean chosen greatest)

      pub even_after : (lean : Leaning meaning tally mill) → lean.level mill ≤ load shop at mill + 2 → EvenIn meaning after
      even_after lean room =
          landed Even
          (even_from_potential shop (carried at chosen.steps) (carried_semi shop at from chosen.steps mill semi chosen.shifting.chain)
          (shift_last_potential shop at mill S.searched.found all lean chosen greatest room))
