-- The turns of the search from a new ticket over a table.
use Rattle.std.proofs.Common.{◌≡◌, ℕ, suc, ◌+◌, ◌<◌, ◌≤◌, Bool, true, false, cond, not, ◌&&◌, eqb, ltb, List, [], ◌∷◌, length, get_or, Some, None, Option, sym, refl, ap, ◌∙◌, subst, inl, inr, ⊎_elim, add-one, arith}
use Rattle.std.specs.Option.{option_map}
use Rattle.std.proofs.lemmas.List.{length-append, get_or_append_left}
use Rattle.std.proofs.lemmas.Bool.{and_parts, and_cases, and_from, not-true, not-false, both_ways, lt-ltb, eqb-true, false≢true}
use Rattle.sets.specs.Sets.{has, members, member, numbers}
use Rattle.sets.specs.declared.number_set.NumberSet.{NumberSet}
use Rattle.sets.proofs.Rising.{numbers_empty, member-numbers}
use Rattle.vocabulary.specs.declared.numbers.Mill.{Mill}
use Rattle.vocabulary.specs.declared.numbers.Ticket.{Ticket}
use Rattle.capability.specs.Meaning.{Meaning}
use Rattle.semimatching.specs.Placements.{SemiMatching}
use Rattle.semimatching.proofs.Carrying.{In}
use Rattle.semimatching.proofs.ForwardSearch.{forward_mill}
use Rattle.table.specs.declared.seat.Seat.{Seat}
use Rattle.table.specs.declared.table.Table.{Table}
use Rattle.table.specs.Held.{meant, tally_of}
use Rattle.table.specs.Seats.{place_of}
use Rattle.table.specs.Tally.{Place, Tally, mill_for, mill_of, shop_in, placement}
use Rattle.table.proofs.TableLaws.{service_few}
use Rattle.search.specs.declared.link.Link.{Link}
use Rattle.search.specs.declared.trail.Trail.{Trail}
use Rattle.search.specs.Routes.{Explored, Ended}
use Rattle.search.specs.Rules.{shop_for}
use Rattle.search.specs.Trails.{queue_of, ticket_in, ticket_of, from_of}
use Rattle.search.specs.Visits.{load_in, fresh, Busy, Visited, Stopped}
use Rattle.search.proofs.ForwardSteps.{Going, going_start, node_at}
use Rattle.search.proofs.ForwardVisits.{is_member, in_right, Leaves, leaves_ticket, leaves_mill, New, going_links, visited_to, visited_stop, going_in, going_ticket, going_skip, going_node, going_end, going_early}
use Rattle.search.proofs.TrailLaws.{queue_length, queue_at}
use Rattle.search.proofs.PlaceSteps.{for_new, for_other, not_placed, stands_other, semi_for}

-- what a trail has not reached of a set is new
fresh_new : (mills : NumberSet) (trail : Trail) → New (queue_of trail) (has mills) (fresh mills trail)
fresh_new mills trail = record {
  anew = λ m y.
      let both = and_parts (has mills m) (not (has trail.reached m)) y in
      (both.0, λ i. both_ways (has trail.reached m) (not-true _ both.1) (trail.known m ∙ (is_member m (queue_of trail)).1 i));
  others = λ m n.
      ⊎_elim
      (λ (cannot : has mills m ≡ false). inl cannot)
      (λ (was : not (has trail.reached m) ≡ false). inr ((is_member m (queue_of trail)).0 (sym (trail.known m) ∙ not-false _ was)))
      (and_cases (has mills m) (not (has trail.reached m)) n);
}

-- the search has come to a place (0 for the ticket itself) and a ticket
pub record Walking (meaning : Meaning) (tally : Tally) (n program : ℕ) (trail : Trail) (h t : ℕ) : Type 0 where
  pub exists : n < 1024
  pub away : tally.seat n ≡ None
  pub going : Going (shop_for meaning tally n program) (placement tally) n (queue_of trail) (ticket_of n trail) (from_of trail) h t 0
  pub some : 0 < h → 0 < length (queue_of trail)

-- it stands at the mill in a place of the queue
pub record Standing (meaning : Meaning) (tally : Tally) (n program : ℕ) (trail : Trail) (next mill t : ℕ) : Type 0 where
  pub walking : Walking meaning tally n program trail (suc next) t
  pub low : next < length (queue_of trail)
  pub is : get_or (queue_of trail) next 0 ≡ mill

in_numbers : (f : ℕ → Bool) (bound m : ℕ) → m < bound → f m ≡ true → In m (numbers f bound)
in_numbers f bound m low y = (is_member m (numbers f bound)).0 (member-numbers f m bound ∙ and_from (ltb m bound) (f m) (lt-ltb m bound low) y)

some_in : (x : ℕ) (xs : List ℕ) → In x xs → 0 < length xs
some_in x [] i = absurd i
some_in x (y ∷ ys) i = omega arith

-- a mill that a ticket may stand on is in service
served : (meaning : Meaning) (tally : Tally) (n program t m : ℕ) → (shop_for meaning tally n program).can t m ≡ true → tally.service m ≡ true
served meaning tally n program t m may = go (eqb t n) (tally.seat t) may
  where
    go : (b : Bool) (seat : Option Place) → cond b (mill_for meaning tally.service program m) (mill_of meaning tally.service seat m) ≡ true → tally.service m ≡ true
    go true seat may = (and_parts (meaning.able program m) (tally.service m) may).1
    go false None may = absurd (false≢true may)
    go false (Some place) may = (and_parts (meaning.able place.program m) (tally.service m) may).1

module _ (meaning : Meaning) (tally : Tally) (n program : ℕ) where
  pub walk_start : n < 1024 → tally.seat n ≡ None → (trail : Trail) → queue_of trail ≡ [] → Walking meaning tally n program trail 0 n
  walk_start exists away trail none = record {
    exists = exists;
    away = away;
    going = subst (λ q. Going (shop_for meaning tally n program) (placement tally) n q (ticket_of n trail) (from_of trail) 0 n 0) (sym none)
        (going_start (shop_for meaning tally n program) (placement tally) n (ticket_of n trail) (from_of trail));
    some = λ later. absurd (omega arith);
  }

  -- a visit from the node v in place h
  module _ (trail : Trail) {h t : ℕ} (W : Walking meaning tally n program trail h t) (v : ℕ) (low : h < length (64 ∷ queue_of trail)) (is : get_or (64 ∷ queue_of trail) h 0 ≡ v)
      (mills : NumberSet) (L : Leaves (shop_for meaning tally n program) (placement tally) n v t (has mills)) (link : Option Link) (ticket : ticket_in n link ≡ t)
      (node : node_at 64 (option_map (λ l. l.by.0) link) ≡ v) (by_mill : (x : ℕ) → option_map (λ l. l.by.0) link ≡ Some x → x < 64) (after : Trail) where
    linked : (bound : ℕ) → Visited (fresh mills trail) link bound trail after → (m : ℕ) → m < bound → fresh mills trail m ≡ true
        → (ticket_of n after m ≡ t) × (from_of after m ≡ option_map (λ l. l.by.0) link)
    linked bound V m under y = let is = V.linked m under y in (ap (ticket_in n) is ∙ ticket, ap (option_map (λ l. l.by.0)) is)

    going_on : (bound : ℕ) → Visited (fresh mills trail) link bound trail after → Going (shop_for meaning tally n program) (placement tally) n (queue_of trail) (ticket_of n after) (from_of after) h t 0
    going_on bound V =
        going_links _ _ n (queue_of trail) (ticket_of n trail) (ticket_of n after) (from_of trail) (from_of after) h t 0
        (λ y i.
        let same = V.kept y (trail.known y ∙ (is_member y (queue_of trail)).1 i) in
        (ap (ticket_in n) same, ap (option_map (λ l. l.by.0)) same))
        W.going

    pub visit_on : Visited (fresh mills trail) link 64 trail after → Busy (load_in tally) (fresh mills trail) 64
        → Going (shop_for meaning tally n program) (placement tally) n (queue_of after) (ticket_of n after) (from_of after) h t 64
    visit_on V busy =
        subst (λ q. Going (shop_for meaning tally n program) (placement tally) n q (ticket_of n after) (from_of after) h t 64) (sym V.queue)
        (visited_to _ _ n (queue_of trail) (ticket_of n after) (from_of after) (option_map (λ l. l.by.0) link) h t v low is node by_mill L (fresh_new mills trail) (going_on 64 V)
        64 (omega arith) (linked 64 V) busy)

    explored : Stopped (load_in tally) (fresh mills trail) link trail after → Explored (shop_for meaning tally n program) (placement tally) n (queue_of after) (ticket_of n after) (from_of after)
    explored S =
        subst (λ q. Explored (shop_for meaning tally n program) (placement tally) n q (ticket_of n after) (from_of after)) (sym S.visited.queue)
        (visited_stop _ _ n (queue_of trail) (ticket_of n after) (from_of after) (option_map (λ l. l.by.0) link) h t v low is node by_mill L (fresh_new mills trail)
        (going_on (S.mill + 1) S.visited) S.mill S.below (linked (S.mill + 1) S.visited) S.busy S.anew S.empty W.exists (not_placed meaning tally n program W.away))

    pub visit_stop : Stopped (load_in tally) (fresh mills trail) link trail after → Ended meaning tally n program after
    visit_stop S =
        let there : In S.mill (numbers (fresh mills trail) (S.mill + 1)) = in_numbers (fresh mills trail) (S.mill + 1) S.mill (omega arith) S.anew in
        record {
          some = (some_in S.mill (queue_of after) (subst (In S.mill) (sym S.visited.queue) (in_right S.mill (queue_of trail) _ there)));
          explored = explored S;
        }

  -- ---- from the ticket itself

  module _ (trail : Trail) (W : Walking meaning tally n program trail 0 n) (empty : queue_of trail ≡ [])
      (mills : NumberSet) (for_it : (m : ℕ) → has mills m ≡ mill_for meaning tally.service program m) (after : Trail) where
    abbrev first_link : Option Link
    first_link = None

    first_leaves : Leaves (shop_for meaning tally n program) (placement tally) n 64 n (has mills)
    first_leaves = leaves_ticket (shop_for meaning tally n program) (placement tally) n (has mills) (λ m. for_new meaning tally n program m ∙ sym (for_it m))

    -- some mill is reached
    enter_fresh : (m : ℕ) → has mills m ≡ true → fresh mills trail m ≡ true
    enter_fresh m y = and_from (has mills m) (not (has trail.reached m)) y (ap not (trail.known m ∙ ap (member m) empty))

    enter_some : (m : ℕ) → m < 64 → mill_for meaning tally.service program m ≡ true → Visited (fresh mills trail) first_link 64 trail after → 0 < length (queue_of after)
    enter_some m low may V =
        let there : In m (numbers (fresh mills trail) 64) = in_numbers (fresh mills trail) 64 m low (enter_fresh m (for_it m ∙ may)) in
        (some_in m (queue_of after) (subst (In m) (sym V.queue) (in_right m (queue_of trail) _ there)))

    pub enter_on : (m : ℕ) → m < 64 → mill_for meaning tally.service program m ≡ true → Visited (fresh mills trail) first_link 64 trail after → Busy (load_in tally) (fresh mills trail) 64 → Walking meaning tally n program after 1 0
    enter_on m low may V busy = record {
      exists = W.exists;
      away = W.away;
      going = going_in _ _ n (visit_on trail W 64 (omega arith) refl mills first_leaves first_link refl refl (λ x e. absurd (cc)) after V busy);
      some = λ later. enter_some m low may V;
    }

    pub enter_stop : Stopped (load_in tally) (fresh mills trail) first_link trail after → Ended meaning tally n program after
    enter_stop = visit_stop trail W 64 (omega arith) refl mills first_leaves first_link refl refl (λ x e. absurd (cc)) after

  -- ---- from the mill in a place of the queue

  pub walk_stand : (trail : Trail) (next : ℕ) (read : List Mill) → Walking meaning tally n program trail (suc next) 0 → next < length trail.queue.items → read ≡ trail.queue.items
      → Standing meaning tally n program trail next (get_or read next (record { 0 = 0 })).0 0
  walk_stand trail next read W low is = record { walking = W; low = omega (arith, queue_length trail); is = queue_at trail read next is low }

  module _ (trail : Trail) {next mill t : ℕ} (S : Standing meaning tally n program trail next mill t) where
    here_mill : mill < 64
    here_mill = forward_mill _ _ n S.walking.going.searched mill (omega (arith, S.low)) S.is (omega arith)

    -- the ticket does not stand there
    pub stand_skip : (placement tally t ≡ Some mill → ⊥) → Standing meaning tally n program trail next mill (t + 1)
    stand_skip off = record {
      walking = record {
        exists = S.walking.exists;
        away = S.walking.away;
        going = going_skip _ _ n S.walking.going mill (omega (arith, S.low)) S.is here_mill off;
        some = S.walking.some;
      };
      low = S.low;
      is = S.is;
    }

    -- it was the last ticket
    pub stand_done : 1024 ≤ t → Walking meaning tally n program trail (suc (next + 1)) 0
    stand_done end = record {
      exists = S.walking.exists;
      away = S.walking.away;
      going = subst (λ h. Going (shop_for meaning tally n program) (placement tally) n (queue_of trail) (ticket_of n trail) (from_of trail) h 0 0) (add-one (suc next) ∙ ap suc (sym (add-one next)))
          (going_node _ _ n S.walking.going mill (omega (arith, S.low)) S.is here_mill end);
      some = λ later. S.walking.some (omega arith);
    }

    -- the ticket stands there, and its mills are visited
    module _ (place : Place) (seat : tally.seat t ≡ Some place) (on : place.mill ≡ mill) (below : t < 1024)
        (mills : NumberSet) (for_it : (m : ℕ) → has mills m ≡ mill_for meaning tally.service place.program m)
        (ticket : Ticket) (number : ticket.0 ≡ t) (node : Mill) (standing : node.0 ≡ mill) (after : Trail) where
      abbrev next_link : Option Link
      next_link = Some (record { ticket = ticket; by = node })

      stands : placement tally t ≡ Some mill
      stands = ap (option_map (λ p. p.mill)) seat ∙ ap Some on

      next_leaves : Leaves (shop_for meaning tally n program) (placement tally) n mill t (has mills)
      next_leaves =
          leaves_mill (shop_for meaning tally n program) (placement tally) n (has mills) mill t here_mill below stands
          (λ m. for_other meaning tally n program t m (stands_other meaning tally n program S.walking.away t mill stands) ∙ ap (λ o. mill_of meaning tally.service o m) seat ∙ sym (for_it m))

      inner : (x : ℕ) → ◌≡◌ {A = Option ℕ} (Some node.0) (Some x) → x < 64
      inner x e = let same : node.0 ≡ x = cc in omega (arith, here_mill)

      pub stand_on : Visited (fresh mills trail) next_link 64 trail after → Busy (load_in tally) (fresh mills trail) 64 → Standing meaning tally n program after next mill (t + 1)
      stand_on V busy =
          let low : next < length (queue_of after) = omega (arith, S.low, ap length V.queue, length-append (queue_of trail) (numbers (fresh mills trail) 64)) in
          let is : get_or (queue_of after) next 0 ≡ mill = ap (λ q. get_or q next 0) V.queue ∙ get_or_append_left (queue_of trail) (numbers (fresh mills trail) 64) 0 next S.low ∙ S.is in
          record {
            walking = record {
              exists = S.walking.exists;
              away = S.walking.away;
              going = going_ticket _ _ n (visit_on trail S.walking mill (omega (arith, S.low)) S.is mills next_leaves next_link number standing inner after V busy)
                  mill (omega arith) is here_mill (omega arith);
              some = λ later. omega (arith, low);
            };
            low = low;
            is = is;
          }

      pub stand_stop : Stopped (load_in tally) (fresh mills trail) next_link trail after → Ended meaning tally n program after
      stand_stop = visit_stop trail S.walking mill (omega (arith, S.low)) S.is mills next_leaves next_link number standing inner after

  -- ---- the end

  module _ (trail : Trail) {h t : ℕ} (W : Walking meaning tally n program trail (suc h) t) (semi : SemiMatching (shop_in meaning tally) (placement tally)) where
    -- the queue is through
    pub walk_end : length (queue_of trail) ≤ h → Ended meaning tally n program trail
    walk_end end = record {
      some = W.some (omega arith);
      explored = going_end _ _ n W.going W.exists (not_placed meaning tally n program W.away) (semi_for meaning tally n program W.away semi) (omega arith);
    }

    -- every mill in service is reached
    pub walk_early : ((m : ℕ) → m < 64 → tally.service m ≡ true → has trail.reached m ≡ true) → Ended meaning tally n program trail
    walk_early all = record {
      some = W.some (omega arith);
      explored = going_early _ _ n W.going W.exists (not_placed meaning tally n program W.away) (semi_for meaning tally n program W.away semi)
          (λ k m low may. (is_member m (queue_of trail)).0 (sym (trail.known m) ∙ all m low (served meaning tally n program k m may)));
    }

-- ---- what the code reads

-- a mill that a program may be cut on is below 64
pub for_below : (table : Table) (program m : ℕ) → mill_for (meant table) (tally_of table).service program m ≡ true → m < 64
for_below table program m may = service_few table m (and_parts ((meant table).able program m) ((tally_of table).service m) may).1

-- a ticket that does not stand on the mill
pub seat_none : (tally : Tally) (t mill : ℕ) → option_map place_of None ≡ tally.seat t → placement tally t ≡ Some mill → ⊥
seat_none tally t mill seat on = let none : ◌≡◌ {A = Option ℕ} None (Some mill) = ap (option_map (λ place. place.mill)) seat ∙ on in cc

pub seat_other : (tally : Tally) (t mill : ℕ) (seat : Seat) → option_map place_of (Some seat) ≡ tally.seat t → (seat.mill.0 ≡ mill → ⊥) → placement tally t ≡ Some mill → ⊥
seat_other tally t mill seat is other on = let same : ◌≡◌ {A = Option ℕ} (Some seat.mill.0) (Some mill) = ap (option_map (λ place. place.mill)) is ∙ on in other (cc)

-- no mill in service is left out
pub all_reached : (tally : Tally) (trail : Trail) (service left : NumberSet) → ((m : ℕ) → has service m ≡ tally.service m)
    → ((m : ℕ) → has left m ≡ (has service m && not (has trail.reached m))) → true ≡ eqb (length (members left)) 0
    → (m : ℕ) → m < 64 → tally.service m ≡ true → has trail.reached m ≡ true
all_reached tally trail service left serves differs none m low serving =
    let out = sym (differs m) ∙ numbers_empty (has left) 64 (eqb-true (length (members left)) 0 (sym none)) m low in
    ⊎_elim
    (λ (off : has service m ≡ false). absurd (both_ways (has service m) off (serves m ∙ serving)))
    (λ (was : not (has trail.reached m) ≡ false). not-false _ was)
    (and_cases (has service m) (not (has trail.reached m)) out)
