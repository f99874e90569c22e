-- The search back from a mill: what it keeps, and the way on from a mill that it reached.
use Rattle.std.specs.Prelude.{◌≡◌, ℕ, ◌+◌, ◌<◌, List, [], ◌∷◌, length, Some, None, slice_index_or}
use Rattle.capability.specs.Meaning.{Meaning}
use Rattle.semimatching.specs.Chains.{Step, Chain}
use Rattle.semimatching.specs.Searches.{Backward}
use Rattle.semimatching.proofs.Links.{Links}
use Rattle.semimatching.proofs.SearchSteps.{Searched}
use Rattle.table.specs.Tally.{Tally, shop_in, placement}
use Rattle.search.specs.declared.trail.Trail.{Trail}
use Rattle.search.specs.Trails.{queue_of, link_of, ticket_of, by_of}

-- the search back from a mill has come to a place of the queue and to a ticket
pub record Sought (meaning : Meaning) (tally : Tally) (mill : ℕ) (trail : Trail) (place ticket : ℕ) : Type 0 where
  pub path : ℕ → List Step
  pub searched : Searched (Backward (shop_in meaning tally) (placement tally)) mill (queue_of trail) path place ticket 0
  pub links : Links mill (queue_of trail) path (ticket_of 0 trail) (by_of trail)
  pub root : link_of trail mill ≡ None

-- it stands on the mill `towards`
pub record Visiting (meaning : Meaning) (tally : Tally) (mill : ℕ) (trail : Trail) (place towards ticket : ℕ) : Type 0 where
  pub sought : Sought meaning tally mill trail place ticket
  pub within : place < length (queue_of trail)
  pub here : slice_index_or (queue_of trail) place 0 ≡ towards

-- it goes on from one ticket to the next
abbrev pub GoesOn : Meaning → Tally → Trail → ℕ → ℕ → Trail → Type 0
GoesOn meaning tally before towards ticket after =
    (mill place : ℕ) → Visiting meaning tally mill before place towards ticket → Visiting meaning tally mill after place towards (ticket + 1)

-- the steps that the links tell from a mill on
abbrev pub Way : Trail → ℕ → List Step → Type 0
Way trail from [] = link_of trail from ≡ None
Way trail from (s ∷ ss) = (link_of trail from ≡ Some (record { ticket = record { 0 = s.ticket }; by = record { 0 = s.mill } })) × Way trail s.mill ss

-- they are a chain
pub record WayOn (meaning : Meaning) (tally : Tally) (trail : Trail) (from : ℕ) : Type 0 where
  pub mill : ℕ
  pub steps : List Step
  pub chain : Chain (shop_in meaning tally) (placement tally) from steps mill
  pub way : Way trail from steps
