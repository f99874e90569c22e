-- The search back from a mill, one ticket and one mill further.
use Rattle.std.proofs.Common.{◌≡◌, ℕ, ◌+◌, ◌<◌, ◌≤◌, true, false, List, [], ◌∷◌, ◌++◌, length, get_or, Some, None, Option, sym, ap, ◌∙◌, subst, arith}
use Rattle.std.specs.Option.{option_map}
use Rattle.std.proofs.lemmas.List.{length-append, get_or_append_left}
use Rattle.std.proofs.lemmas.Bool.{both_ways}
use Rattle.std.proofs.lemmas.Bool.Decides.{not_from_Decides}
use Rattle.sets.specs.Sets.{has, member}
use Rattle.capability.specs.Meaning.{Meaning}
use Rattle.semimatching.specs.Chains.{Step}
use Rattle.semimatching.specs.Placements.{Shop, Placement}
use Rattle.semimatching.specs.Searches.{Backward}
use Rattle.semimatching.proofs.BackwardSearch.{back_start, back_skip, back_known, back_new, back_node, back_rest}
use Rattle.semimatching.proofs.Carrying.{In}
use Rattle.semimatching.proofs.Links.{Links, links_start, links_new}
use Rattle.semimatching.proofs.Places.{in_place}
use Rattle.semimatching.proofs.Search.{updated, start_first}
use Rattle.semimatching.proofs.SearchSteps.{Searched}
use Rattle.table.specs.declared.table.Table.{Table}
use Rattle.table.specs.Held.{tally_of}
use Rattle.table.specs.Tally.{Place, Tally, mill_for, mill_of, shop_in, placement}
use Rattle.table.proofs.TableLaws.{semi, stands_few, service_few, placed_served}
use Rattle.search.specs.declared.link.Link.{Link}
use Rattle.search.specs.declared.trail.Trail.{Trail}
use Rattle.search.specs.Trails.{queue_of, node_of, link_of, ticket_in, ticket_of, by_of}
use Rattle.search.proofs.ForwardVisits.{is_member}
use Rattle.search.specs.BackSearches.{Sought, Visiting}

-- what `reach` does to a trail
pub record Reached (before : Trail) (mill : ℕ) (link : Option Link) (after : Trail) : Type 0 where
  pub queue : queue_of after ≡ queue_of before ++ (mill ∷ [])
  pub here : link_of after mill ≡ link
  pub others : (m : ℕ) → (m ≡ mill → ⊥) → link_of after m ≡ link_of before m

-- the search begins at the mill
pub seek_start : (mill : ℕ) (before : Trail) (link : Option Link) (after : Trail) → Reached before mill link after
    → link ≡ None → queue_of before ≡ []
    → (meaning : Meaning) (tally : Tally) → Sought meaning tally mill after 0 0
seek_start mill before link after R root empty meaning tally =
    let first : queue_of after ≡ mill ∷ [] = R.queue ∙ ap (λ q. q ++ (mill ∷ [])) empty in
    record {
      path = λ _. [];
      searched = subst (λ q. Searched (Backward (shop_in meaning tally) (placement tally)) mill q (λ _. []) 0 0 0) (sym first) (back_start (shop_in meaning tally) (placement tally) mill);
      links = subst (λ q. Links mill q (λ _. []) (ticket_of 0 after) (by_of after)) (sym first) (links_start mill (λ _. []) (ticket_of 0 after) (by_of after));
      root = R.here ∙ root;
    }

module _ {meaning : Meaning} {tally : Tally} {mill : ℕ} {trail : Trail} {place t : ℕ} (S : Sought meaning tally mill trail place t) where
  pub sought_some : 0 < length (queue_of trail)
  sought_some = (start_first S.searched.found).0

  -- the search has come to the end of the queue
  pub sought_done : place ≤ length (queue_of trail) → length (queue_of trail) ≤ place → Sought meaning tally mill trail (length (queue_of trail)) t
  sought_done low high = subst (λ k. Sought meaning tally mill trail k t) (omega arith) S

  pub reached_in : (m : ℕ) → has trail.reached m ≡ true → In m (queue_of trail)
  reached_in m h = (is_member m (queue_of trail)).0 (sym (trail.known m) ∙ h)

  -- the rest of the queue adds nothing: every ticket stands on a mill that is reached
  pub sought_rest : ((k m : ℕ) → placement tally k ≡ Some m → has trail.reached m ≡ true) → Sought meaning tally mill trail (length (queue_of trail)) 0
  sought_rest known = record {
    path = S.path;
    searched = back_rest (shop_in meaning tally) (placement tally) mill S.searched (λ k m on. reached_in m (known k m on));
    links = S.links;
    root = S.root;
  }

  pub reached_out : (m : ℕ) → has trail.reached m ≡ false → In m (queue_of trail) → ⊥
  reached_out m h = not_from_Decides (member m (queue_of trail)) (is_member m (queue_of trail)) (sym (trail.known m) ∙ h)

  pub sought_mills : (m : ℕ) → In m (queue_of trail) → m < 64
  sought_mills m i = trail.below m (trail.known m ∙ (is_member m (queue_of trail)).1 i)

-- the search stands on a mill
module _ {meaning : Meaning} {tally : Tally} {mill : ℕ} {trail : Trail} {place towards t : ℕ} (V : Visiting meaning tally mill trail place towards t) where
  abbrev shop : Shop
  shop = shop_in meaning tally

  abbrev at : Placement
  at = placement tally

  abbrev S : Sought meaning tally mill trail place t
  S = V.sought

  under : place < length (queue_of trail)
  under = V.within

  pub towards_in : In towards (queue_of trail)
  towards_in = subst (λ k. In k (queue_of trail)) V.here (in_place (queue_of trail) place under)

  -- past the ticket t, with no mill more
  on : Searched (Backward shop at) mill (queue_of trail) S.path place (t + 1) 0 → Visiting meaning tally mill trail place towards (t + 1)
  on searched = record {
    sought = record { path = S.path; searched = searched; links = S.links; root = S.root };
    within = V.within;
    here = V.here;
  }

  -- the ticket does not stand
  pub visit_none : tally.seat t ≡ None → Visiting meaning tally mill trail place towards (t + 1)
  visit_none away = on (back_skip shop at mill S.searched towards under V.here (λ m stands may. cc))

  module _ (p : Place) (seat : tally.seat t ≡ Some p) where
    stands : at t ≡ Some p.mill
    stands = ap (option_map (λ place. place.mill)) seat

    may_go : shop.can t towards ≡ mill_for meaning tally.service p.program towards
    may_go = ap (λ o. mill_of meaning tally.service o towards) seat

    -- it may not go to the mill
    pub visit_unable : mill_for meaning tally.service p.program towards ≡ false → Visiting meaning tally mill trail place towards (t + 1)
    visit_unable unable =
        on (back_skip shop at mill S.searched towards under V.here (λ m there may. both_ways (mill_for meaning tally.service p.program towards) unable (sym may_go ∙ may)))

    -- it stands on a mill that is reached
    pub visit_known : has trail.reached p.mill ≡ true → Visiting meaning tally mill trail place towards (t + 1)
    visit_known known = on (back_known shop at mill S.searched towards under V.here p.mill stands (reached_in S p.mill known))

    -- it stands on a new mill
    module _ {after : Trail} (unknown : has trail.reached p.mill ≡ false) (may : mill_for meaning tally.service p.program towards ≡ true) (exists : t < 1024)
        (R : Reached trail p.mill (Some (record { ticket = record { 0 = t }; by = record { 0 = towards } })) after) where
      abbrev m : ℕ
      m = p.mill

      abbrev path : ℕ → List Step
      path = updated S.path m (record { ticket = t; mill = m } ∷ S.path towards)

      new : In m (queue_of trail) → ⊥
      new = reached_out S m unknown

      there : link_of after m ≡ Some (record { ticket = record { 0 = t }; by = record { 0 = towards } })
      there = R.here

      searched : Searched (Backward shop at) mill (queue_of trail ++ (m ∷ [])) path place (t + 1) 0
      searched =
          back_new shop at mill S.searched towards under V.here m stands (sought_mills S towards towards_in) exists
          (may_go ∙ may) new

      links : Links mill (queue_of trail ++ (m ∷ [])) path (ticket_of 0 after) (by_of after)
      links =
          links_new mill (queue_of trail) S.path (ticket_of 0 trail) (by_of trail) (ticket_of 0 after) (by_of after) m t towards towards_in new
          (ap (ticket_in 0) there) (ap node_of there)
          (λ y other. (ap (ticket_in 0) (R.others y other), ap node_of (R.others y other)))
          S.links

      pub visit_new : Visiting meaning tally mill after place towards (t + 1)
      visit_new = record {
        sought = record {
          path = path;
          searched = subst (λ q. Searched (Backward shop at) mill q path place (t + 1) 0) (sym R.queue) searched;
          links = subst (λ q. Links mill q path (ticket_of 0 after) (by_of after)) (sym R.queue) links;
          root = R.others mill (λ e. new (subst (λ k. In k (queue_of trail)) e S.searched.found.root.0)) ∙ S.root;
        };
        within = omega (arith, ap length R.queue, length-append (queue_of trail) (m ∷ []), under);
        here = ap (λ q. get_or q place 0) R.queue ∙ get_or_append_left (queue_of trail) (m ∷ []) 0 place under ∙ V.here;
      }

-- the search comes to the next mill of the queue, and is past its last ticket
module _ {meaning : Meaning} {tally : Tally} {mill : ℕ} {trail : Trail} {place towards : ℕ} where
  pub visit_first : Sought meaning tally mill trail place 0 → place < length (queue_of trail) → get_or (queue_of trail) place 0 ≡ towards → Visiting meaning tally mill trail place towards 0
  visit_first S under is = record { sought = S; within = under; here = is }

  pub visit_last : (t : ℕ) → 1024 ≤ t → Visiting meaning tally mill trail place towards t → Sought meaning tally mill trail (place + 1) 0
  visit_last t end V =
      let S = V.sought in
      record {
        path = S.path;
        searched = back_node (shop_in meaning tally) (placement tally) mill S.searched towards (under V) V.here end;
        links = S.links;
        root = S.root;
      }

-- a ticket of a table that stands
module _ (table : Table) (t : ℕ) (p : Place) (seat : (tally_of table).seat t ≡ Some p) where
  pub seat_low : p.mill < 64
  seat_low = (semi table t p.mill (stands_few table t p seat) (ap (option_map (λ place. place.mill)) seat)).0

-- where every mill in service is reached, so is each mill on which a ticket stands
pub stands_reached : (table : Table) (trail : Trail) → ((m : ℕ) → m < 64 → (tally_of table).service m ≡ true → has trail.reached m ≡ true)
    → (t m : ℕ) → placement (tally_of table) t ≡ Some m → has trail.reached m ≡ true
stands_reached table trail all t m on = let serves = placed_served table t m on in all m (service_few table m serves) serves
