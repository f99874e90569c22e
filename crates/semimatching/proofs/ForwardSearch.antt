-- The search from a new ticket: its walks are the ways to place the ticket, and the first walk to a mill of the least load is the way to choose.
use Rattle.std.proofs.Common.{◌≡◌, ℕ, ◌+◌, ◌<◌, ◌≤◌, Bool, true, false, ◌⊎◌, List, [], ◌∷◌, ◌++◌, length, get_or, Some, None, Decides, sym, refl, ap, ◌∙◌, subst, ap₂, inl, inr, ⊎_elim, arith}
use mathlib.Core.List.{reverse_aux}
use Rattle.std.proofs.lemmas.List.{reverse-append}
use Rattle.std.proofs.lemmas.Bool.{cases_lt, both_ways}
use Rattle.semimatching.specs.Placements.{Shop, Placement, load, SemiMatching}
use Rattle.semimatching.specs.Chains.{Step, Linked, mills_on, Distinct, Chain}
use Rattle.semimatching.specs.Walks.{NotAfter, Edges, Walk}
use Rattle.semimatching.specs.Choice.{walk_from, Placing}
use Rattle.semimatching.specs.Prices.{position, next_price}
use Rattle.semimatching.specs.Potentials.{Potential, None as NoMill}
use Rattle.semimatching.specs.Searches.{Onward, FromTicket}
use Rattle.semimatching.proofs.Carrying.{In, in_apart, chain_end, placed}
use Rattle.semimatching.proofs.Adding.{add_step}
use Rattle.semimatching.proofs.NoChain.{linked_more}
use Rattle.semimatching.proofs.WalkOrder.{same_step, not_after_trans}
use Rattle.semimatching.proofs.Places.{is_in, is_in_lem, not_in, in_push, distinct_push, index_in, index_below, in_place, index_place, place_index}
use Rattle.semimatching.proofs.Search.{Found, Link, updated, nodes_on, complete, start_first, walk, path_within, path_once, ordered_place}
use Rattle.semimatching.proofs.SearchSteps.{Searched, search_start, node_in, mill-none, mill_known, mill_new, mill_first, next_ticket, skip_ticket, node_done, next_node}

-- a walk as a way to place the ticket n
pub record Way (shop : Shop) (at : Placement) (n : ℕ) (p : List Step) (w : ℕ) : Type 0 where
  pub first : ℕ
  pub steps : List Step
  pub may : shop.can n first ≡ true
  pub chain : Chain shop at first steps w
  pub is : walk_from n first steps ≡ p

pub mills_push : (v : ℕ) (steps : List Step) (s : Step) → mills_on v (steps ++ (s ∷ [])) ≡ mills_on v steps ++ (s.mill ∷ [])
mills_push v [] s = refl
mills_push v (r ∷ steps) s = ap (λ l. v ∷ l) (mills_push r.mill steps s)

module _ (shop : Shop) (at : Placement) (n : ℕ) where
  abbrev edge : Edges
  edge = FromTicket shop at n

  edge_mill : (y : ℕ) (s : Step) → edge y s → s.mill < shop.mills
  edge_mill y s (inl e) = e.2
  edge_mill y s (inr e) = e.1.2

  -- no walk comes back to the ticket
  home : (q : List Step) (y : ℕ) → Walk edge shop.mills q y → y ≡ shop.mills → q ≡ []
  home [] y w e = refl
  home (s ∷ q) y w e = absurd (omega (arith, edge_mill w.0 s w.2, w.3))

  way_in : (p : List Step) (w : ℕ) → w < shop.mills → Walk edge shop.mills p w → Distinct (nodes_on shop.mills p)
      → (y : Way shop at n p w) × ((z : ℕ) → In z (mills_on y.first y.steps) → In z (nodes_on shop.mills p))
  way_in [] w low l once = absurd (omega arith)
  way_in (s ∷ q) w low l once =
      let y = l.0 in
      let rest : y < shop.mills → (g : Way shop at n q y) × ((z : ℕ) → In z (mills_on g.first g.steps) → In z (nodes_on shop.mills q)) = λ under. way_in q y under l.1 once.1 in
      ⊎_elim
      (λ (e : (y ≡ shop.mills) × (s.ticket ≡ n) × (s.mill < shop.mills) × (shop.can n s.mill ≡ true)). (
        record {
          first = s.mill;
          steps = [];
          may = e.3;
          chain = record { start = e.2; linked = l.3; once = (tt, tt) };
          is = ap₂ ◌∷◌ (same_step (record { ticket = n; mill = s.mill }) s (sym e.1) refl) (sym (home q y l.1 e.0));
        },
        λ z. ⊎_elim (λ (here : z ≡ s.mill). inl here) (λ i. absurd i),
      ))
      (λ (e : (y < shop.mills) × Onward shop at y s).
      let g = (rest e.0).0 in
      let inside = (rest e.0).1 in
      let more = linked_more shop at g.first g.steps y s g.chain.linked e.1.0 e.1.1 e.1.2 e.1.3 in (
        record {
          first = g.first;
          steps = g.steps ++ (s ∷ []);
          may = g.may;
          chain = record {
            start = g.chain.start;
            linked = subst (Linked shop at g.first (g.steps ++ (s ∷ []))) l.3 more;
            once = subst Distinct (sym (mills_push g.first g.steps s))
                (distinct_push _ s.mill g.chain.once (λ i. in_apart s.mill s.mill _ once.0 (inside s.mill i) refl));
          };
          is = reverse-append (record { ticket = n; mill = g.first } ∷ g.steps) (s ∷ []) ∙ ap (λ r. s ∷ r) g.is;
        },
        λ z i. ⊎_elim
            (λ (j : In z (mills_on g.first g.steps)). inr (inside z j))
            (λ (here : z ≡ s.mill). inl here)
            (in_push z _ s.mill (subst (In z) (mills_push g.first g.steps s) i)),
      ))
      l.2

  pub walk_placing : (p : List Step) (w : ℕ) → w < shop.mills → Walk (FromTicket shop at n) shop.mills p w → Distinct (nodes_on shop.mills p) → Way shop at n p w
  walk_placing p w low l once = (way_in p w low l once).0

  walk_on : (v : ℕ) (steps : List Step) (w : ℕ) (p : List Step) → v < shop.mills → Walk edge shop.mills p v → Linked shop at v steps w → Walk edge shop.mills (reverse_aux steps p) w
  walk_on v [] w p low l linked = subst (Walk edge shop.mills p) linked l
  walk_on v (s ∷ ss) w p low l linked =
      walk_on s.mill ss w (s ∷ p) linked.2 (v, l, inr (low, (linked.0, linked.1, linked.2, linked.3)), refl) linked.4

  pub placing_walk : (f : ℕ) (steps : List Step) (w : ℕ) → shop.can n f ≡ true → Chain shop at f steps w → Walk (FromTicket shop at n) shop.mills (walk_from n f steps) w
  placing_walk f steps w may c =
      walk_on f steps w (record { ticket = n; mill = f } ∷ []) c.start (shop.mills, refl, inl (refl, refl, c.start, may), refl) c.linked

-- the way that is chosen, and its walk
pub record Chosen (shop : Shop) (at : Placement) (n : ℕ) (p : List Step) (w : ℕ) : Type 0 where
  pub first : ℕ
  pub steps : List Step
  pub placing : Placing shop at n first steps w
  pub is : walk_from n first steps ≡ p

module _ (shop : Shop) (at : Placement) (n : ℕ) where
  chosen : (p : List Step) (w : ℕ) → w < shop.mills → Walk (FromTicket shop at n) shop.mills p w → Distinct (nodes_on shop.mills p)
      → ((q : List Step) (z : ℕ) → z < shop.mills → Walk (FromTicket shop at n) shop.mills q z → load shop at w ≤ load shop at z)
      → ((q : List Step) (z : ℕ) → z < shop.mills → Walk (FromTicket shop at n) shop.mills q z → load shop at z ≡ load shop at w → NotAfter p q)
      → Chosen shop at n p w
  chosen p w low l once least first =
      let y = walk_placing shop at n p w low l once in
      record {
        first = y.first;
        steps = y.steps;
        placing = record {
          may = y.may;
          chain = y.chain;
          least = λ g ss z may c. least (walk_from n g ss) z (chain_end shop at g ss z c) (placing_walk shop at n g ss z may c);
          first = λ g ss z may c e.
              subst (λ q. NotAfter q (walk_from n g ss)) (sym y.is) (first (walk_from n g ss) z (chain_end shop at g ss z c) (placing_walk shop at n g ss z may c) e);
        };
        is = y.is;
      }

-- w has the least load of the mills at the places of a queue
pub queue_least : (shop : Shop) (at : Placement) (queue : List ℕ) (w : ℕ)
    → ((j : ℕ) → j < length queue → get_or queue j 0 < shop.mills → load shop at w ≤ load shop at (get_or queue j 0))
    → (z : ℕ) → In z queue → z < shop.mills → load shop at w ≤ load shop at z
queue_least shop at queue w least z i below =
    let same = place_index z queue i in
    omega (arith, least (index_in z queue) (index_below z queue i) (omega arith), ap (load shop at) same)

module _ (shop : Shop) (at : Placement) (n : ℕ) {queue : List ℕ} {path : ℕ → List Step} {looked : ℕ → Step → Bool} (F : Found (FromTicket shop at n) shop.mills queue path looked) where
  -- all nodes in the queue are mills, but for the ticket itself
  pub queue_mills : (z : ℕ) → In z queue → (z ≡ shop.mills) ⊎ (z < shop.mills)
  queue_mills z i =
      ⊎_elim
      (λ (e : z ≡ shop.mills). inl e)
      (λ (l : Link (FromTicket shop at n) queue path z). inr (omega (arith, edge_mill shop at n l.from l.step l.may, l.to)))
      (F.tree z i)

  -- the search has stopped at a step from v to a new mill of load 0, and no mill in the queue has load 0
  pub choose_stopped : (v : ℕ) (s : Step) → In v queue → FromTicket shop at n v s
      → ((p : List Step) (z : ℕ) → Walk (FromTicket shop at n) shop.mills p z → (In z queue → ⊥) → NotAfter (s ∷ path v) p)
      → (In s.mill queue → ⊥) → load shop at s.mill ≡ 0
      → ((j : ℕ) → j < length queue → get_or queue j 0 < shop.mills → 0 < load shop at (get_or queue j 0))
      → Chosen shop at n (s ∷ path v) s.mill
  choose_stopped v s within may first new empty busy =
      chosen shop at n (s ∷ path v) s.mill (edge_mill shop at n v s may)
      (v, walk F v within, may, refl)
      (not_in s.mill _ (λ i. new (path_within F v within s.mill i).0), path_once F v within)
      (λ q z below l. omega arith)
      (λ q z below l same.
      first q z l
      (λ i. let there = place_index z queue i in omega (arith, busy (index_in z queue) (index_below z queue i) (omega arith), ap (load shop at) there)))

  -- the search has looked at all steps
  module _ (all : (x : ℕ) (s : Step) → In x queue → FromTicket shop at n x s → looked x s ≡ true) where
    -- of the mills in the queue, w at place k is the first of those with the least load
    pub choose_complete : (k w : ℕ) → k < length queue → get_or queue k 0 ≡ w → w < shop.mills
        → ((j : ℕ) → j < length queue → get_or queue j 0 < shop.mills → load shop at w ≤ load shop at (get_or queue j 0))
        → ((j : ℕ) → j < k → get_or queue j 0 < shop.mills → load shop at w < load shop at (get_or queue j 0))
        → Chosen shop at n (path w) w
    choose_complete k w under is low least earliest =
        let within : In w queue = subst (λ x. In x queue) is (in_place queue k under) in
        let place : index_in w queue ≡ k = ap (λ x. index_in x queue) (sym is) ∙ index_place queue k F.once under in
        chosen shop at n (path w) w low (walk F w within) (path_once F w within)
        (λ q z below l. queue_least shop at queue w least z (complete F all q z l).0 below)
        (λ q z below l same.
        let c = complete F all q z l in
        let there = place_index z queue c.0 in
        ⊎_elim
        (λ (lt : index_in z queue < k). absurd (omega (arith, earliest (index_in z queue) lt (omega arith), ap (load shop at) there)))
        (λ (ge : k ≤ index_in z queue). not_after_trans (path w) (path z) q (ordered_place path queue w z F.sorted within c.0 (omega arith)) c.1)
        (cases_lt (index_in z queue) k))

    -- the mills in the queue: those of the ticket, and with each mill those of the tickets on it
    pub reached_first : (b : ℕ) → b < shop.mills → shop.can n b ≡ true → In b queue
    reached_first b below may =
        let e : FromTicket shop at n shop.mills (record { ticket = n; mill = b }) = inl (refl, refl, below, may) in
        (F.covers shop.mills (record { ticket = n; mill = b }) F.root.0 e (all _ _ F.root.0 e)).0

    pub reached_on : (t a b : ℕ) → t < shop.tickets → at t ≡ Some a → a < shop.mills → In a queue → b < shop.mills → shop.can t b ≡ true → In b queue
    reached_on t a b k stands low i below may =
        let e : FromTicket shop at n a (record { ticket = t; mill = b }) = inr (low, (k, stands, below, may)) in
        (F.covers a (record { ticket = t; mill = b }) i e (all _ _ i e)).0

    module _ (R : ℕ → Bool) (tells : (m : ℕ) → m < shop.mills → Decides (R m) (In m queue)) where
      pub reached_entry : (b : ℕ) → b < shop.mills → shop.can n b ≡ true → R b ≡ true
      reached_entry b below may = (tells b below).1 (reached_first b below may)

      pub reached_closed : SemiMatching shop at → (t a b : ℕ) → t < shop.tickets → at t ≡ Some a → R a ≡ true → b < shop.mills → shop.can t b ≡ true → R b ≡ true
      reached_closed semi t a b k stands r below may =
          let low = (semi t a k stands).0 in
          (tells b below).1 (reached_on t a b k stands low ((tells a low).0 r) below may)

-- a mill of load 0 is a least one of all
pub empty_least : (shop : Shop) (at : Placement) (w : ℕ) → load shop at w ≡ 0 → (m : ℕ) → next_price position w (load shop at w) ≤ next_price position m (load shop at m)
empty_least shop at w empty m = omega arith

-- the potential when the ticket is placed
module _ (shop : Shop) (at : Placement) (n : ℕ) {p : List Step} {w : ℕ} (c : Chosen shop at n p w) (h : n < shop.tickets) (new : at n ≡ None) (P : Potential shop position at NoMill) where
  pub complete_potential : SemiMatching shop at
      → {queue : List ℕ} {path : ℕ → List Step} {looked : ℕ → Step → Bool} → Found (FromTicket shop at n) shop.mills queue path looked
      → ((x : ℕ) (s : Step) → In x queue → FromTicket shop at n x s → looked x s ≡ true)
      → ((j : ℕ) → j < length queue → get_or queue j 0 < shop.mills → load shop at w ≤ load shop at (get_or queue j 0))
      → Potential shop position (placed at n c.first c.steps) NoMill
  complete_potential semi {queue} F all least =
      add_step shop position (λ m k one. omega arith) at P n c.first c.steps w h new c.placing.may c.placing.chain
      (λ m. is_in m queue)
      (reached_closed shop at n F all (λ m. is_in m queue) (λ m low. is_in_lem m queue) semi)
      (reached_entry shop at n F all (λ m. is_in m queue) (λ m low. is_in_lem m queue))
      (λ m low r. omega (arith, queue_least shop at queue w least m ((is_in_lem m queue).0 r) low))

  pub stopped_potential : load shop at w ≡ 0 → Potential shop position (placed at n c.first c.steps) NoMill
  stopped_potential empty =
      add_step shop position (λ m k one. omega arith) at P n c.first c.steps w h new c.placing.may c.placing.chain
      (λ _. true) (λ t a b k stands r low may. refl) (λ b low may. refl) (λ m low r. empty_least shop at w empty m)

-- what each turn of the search keeps
module _ (shop : Shop) (at : Placement) (n : ℕ) where
  pub forward_start : Searched (FromTicket shop at n) shop.mills (shop.mills ∷ []) (λ _. []) 0 n 0
  forward_start = search_start (FromTicket shop at n) shop.mills n (λ s. ⊎_elim (λ e. omega arith) (λ e. omega arith))

  -- at the ticket itself
  module _ {queue : List ℕ} {path : ℕ → List Step} {b : ℕ} (S : Searched (FromTicket shop at n) shop.mills queue path 0 n b) where
    abbrev root : (0 < length queue) × (get_or queue 0 0 ≡ shop.mills)
    root = start_first S.found

    pub entry_none : shop.can n b ≡ false → Searched (FromTicket shop at n) shop.mills queue path 0 n (b + 1)
    entry_none not = mill-none S shop.mills root.0 root.1 (⊎_elim (λ e. both_ways (shop.can n b) not e.3) (λ e. omega arith))

    pub entry_known : In b queue → Searched (FromTicket shop at n) shop.mills queue path 0 n (b + 1)
    entry_known = mill_known S shop.mills root.0 root.1

    module _ (below : b < shop.mills) (may : shop.can n b ≡ true) (new : In b queue → ⊥) where
      pub entry_new : Searched (FromTicket shop at n) shop.mills (queue ++ (b ∷ [])) (updated path b (record { ticket = n; mill = b } ∷ path shop.mills)) 0 n (b + 1)
      entry_new = mill_new S shop.mills root.0 root.1 (inl (refl, refl, below, may)) new

      pub entry_stop : load shop at b ≡ 0 → ((j : ℕ) → j < length queue → get_or queue j 0 < shop.mills → 0 < load shop at (get_or queue j 0))
          → Chosen shop at n (record { ticket = n; mill = b } ∷ path shop.mills) b
      entry_stop empty busy =
          choose_stopped shop at n S.found shop.mills (record { ticket = n; mill = b }) S.found.root.0 (inl (refl, refl, below, may))
          (mill_first S shop.mills root.0 root.1) new empty busy

    pub entry_end : shop.mills ≤ b → Searched (FromTicket shop at n) shop.mills queue path 1 0 0
    entry_end end = node_done S shop.mills root.0 root.1 (λ s. ⊎_elim (λ e. inr (omega arith)) (λ e. absurd (omega arith)))

  -- at the mill v in place h
  module _ {queue : List ℕ} {path : ℕ → List Step} {h t b : ℕ} (S : Searched (FromTicket shop at n) shop.mills queue path h t b)
      (v : ℕ) (low : h < length queue) (is : get_or queue h 0 ≡ v) where
    pub forward_mill : 0 < h → v < shop.mills
    forward_mill later =
        ⊎_elim
        (λ (e : v ≡ shop.mills).
        absurd (omega (
          arith,
          index_place queue h S.found.once low,
          index_place queue 0 S.found.once (omega arith),
          ap (λ k. index_in k queue) (is ∙ e ∙ sym (start_first S.found).1),
        )))
        (λ (l : v < shop.mills). l)
        (queue_mills shop at n S.found v (node_in S v low is))

    pub forward_known : In b queue → Searched (FromTicket shop at n) shop.mills queue path h t (b + 1)
    forward_known = mill_known S v low is

    module _ (mill : v < shop.mills) where
      pub forward_none : shop.can t b ≡ false → Searched (FromTicket shop at n) shop.mills queue path h t (b + 1)
      forward_none not = mill-none S v low is (⊎_elim (λ e. omega arith) (λ e. both_ways (shop.can t b) not e.1.3))

      module _ (k : t < shop.tickets) (stands : at t ≡ Some v) (below : b < shop.mills) (may : shop.can t b ≡ true) (new : In b queue → ⊥) where
        pub forward_new : Searched (FromTicket shop at n) shop.mills (queue ++ (b ∷ [])) (updated path b (record { ticket = t; mill = b } ∷ path v)) h t (b + 1)
        forward_new = mill_new S v low is (inr (mill, (k, stands, below, may))) new

        pub forward_stop : load shop at b ≡ 0 → ((j : ℕ) → j < length queue → get_or queue j 0 < shop.mills → 0 < load shop at (get_or queue j 0))
            → Chosen shop at n (record { ticket = t; mill = b } ∷ path v) b
        forward_stop empty busy =
            choose_stopped shop at n S.found v (record { ticket = t; mill = b }) (node_in S v low is) (inr (mill, (k, stands, below, may))) (mill_first S v low is) new empty busy

      pub forward_ticket : shop.mills ≤ b → Searched (FromTicket shop at n) shop.mills queue path h (t + 1) 0
      forward_ticket end = next_ticket S v low is (λ s may same. ⊎_elim (λ e. omega arith) (λ e. omega arith) may)

      pub forward_skip : (at t ≡ Some v → ⊥) → Searched (FromTicket shop at n) shop.mills queue path h (t + 1) 0
      forward_skip not = skip_ticket S v low is (λ m. ⊎_elim (λ e. omega arith) (λ e. not e.1.1))

      pub forward_node : shop.tickets ≤ t → Searched (FromTicket shop at n) shop.mills queue path (h + 1) 0 0
      forward_node end = next_node S v low is (λ s. ⊎_elim (λ e. omega arith) (λ e. omega arith))
