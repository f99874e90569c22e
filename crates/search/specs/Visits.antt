-- What one visit does to a trail: a ticket reaches those of its mills that were not reached before.
use Rattle.std.specs.Prelude.{◌≡◌, ℕ, ◌+◌, ◌<◌, Bool, true, not, ◌&&◌, ◌++◌, Option}
use Rattle.sets.specs.Sets.{has, numbers}
use Rattle.sets.specs.declared.number_set.NumberSet.{NumberSet}
use Rattle.semimatching.specs.Placements.{stands_on}
use Rattle.semimatching.specs.Sums.{count_to}
use Rattle.table.specs.Tally.{Tally, placement}
use Rattle.search.specs.declared.link.Link.{Link}
use Rattle.search.specs.declared.trail.Trail.{Trail}
use Rattle.search.specs.Trails.{queue_of, link_of}

-- the number of tickets on a mill
abbrev pub load_in : Tally → ℕ → ℕ
load_in tally mill = count_to 1024 (λ t. stands_on (placement tally t) mill)

-- the mills of a set that a trail has not reached
abbrev pub fresh : NumberSet → Trail → ℕ → Bool
fresh mills trail m = has mills m && not (has trail.reached m)

-- the new mills below a bound were reached, in rising order, by one link
pub record Visited (new : ℕ → Bool) (link : Option Link) (bound : ℕ) (before after : Trail) : Type 0 where
  pub queue : queue_of after ≡ queue_of before ++ numbers new bound
  pub linked : (m : ℕ) → m < bound → new m ≡ true → link_of after m ≡ link
  pub kept : (m : ℕ) → has before.reached m ≡ true → link_of after m ≡ link_of before m

-- the new mills below a bound have tickets on them
abbrev pub Busy : (ℕ → ℕ) → (ℕ → Bool) → ℕ → Type 0
Busy load new bound = (m : ℕ) → m < bound → new m ≡ true → 0 < load m

-- the visit came to an end at the first of the new mills that is empty
pub record Stopped (load : ℕ → ℕ) (new : ℕ → Bool) (link : Option Link) (before after : Trail) : Type 0 where
  pub mill : ℕ
  pub below : mill < 64
  pub anew : new mill ≡ true
  pub empty : load mill ≡ 0
  pub busy : Busy load new mill
  pub visited : Visited new link (mill + 1) before after
