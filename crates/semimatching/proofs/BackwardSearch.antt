-- The search back from a mill r: its walks are the chains to r, and the first walk to a mill of the greatest load is the chain to carry out.
use Rattle.std.proofs.Common.{◌≡◌, ℕ, ◌+◌, ◌<◌, ◌≤◌, Bool, true, List, [], ◌∷◌, ◌++◌, length, get_or, Some, Decides, sym, refl, ap, ◌∙◌, subst, ap₂, ⊎_elim, arith}
use Rattle.std.proofs.lemmas.Bool.{cases_lt}
use Rattle.semimatching.specs.Placements.{Shop, Placement, load, SemiMatching}
use Rattle.semimatching.specs.Prices.{position}
use Rattle.semimatching.specs.Chains.{Step, Linked, mills_on, Distinct, Chain, carried, Improving}
use Rattle.semimatching.specs.Potentials.{Potential, None}
use Rattle.semimatching.specs.Walks.{NotAfter, Walk}
use Rattle.semimatching.specs.Choice.{walk_back, Shifting}
use Rattle.semimatching.specs.Searches.{Backward}
use Rattle.semimatching.proofs.Carrying.{In}
use Rattle.semimatching.proofs.NoChain.{last_position}
use Rattle.semimatching.proofs.Shifting.{finish, shift_step, shift_last}
use Rattle.semimatching.proofs.WalkOrder.{same_step, not_after_trans}
use Rattle.semimatching.proofs.Places.{is_in, is_in_lem, index_in, index_below, in_place, index_place, place_index}
use Rattle.semimatching.proofs.Search.{Found, Link, updated, nodes_on, complete, walk, path_once, ordered_place}
use Rattle.semimatching.proofs.SearchSteps.{Searched, search_start, skip_ticket, only_known, only_new, next_node, search_rest}

-- the nodes of the walk are the mills of the chain
pub nodes_back : (shop : Shop) (at : Placement) (x : ℕ) (steps : List Step) (r : ℕ) → Linked shop at x steps r → nodes_on r (walk_back x steps) ≡ mills_on x steps
nodes_back shop at x [] r l = ap (λ k. k ∷ []) (sym l)
nodes_back shop at x (s ∷ ss) r l = ap (λ k. x ∷ k) (nodes_back shop at s.mill ss r l.4)

-- a walk back from r as a chain to r
pub record WayBack (shop : Shop) (at : Placement) (r : ℕ) (p : List Step) (x : ℕ) : Type 0 where
  pub steps : List Step
  pub chain : Chain shop at x steps r
  pub is : walk_back x steps ≡ p

module _ (shop : Shop) (at : Placement) (r : ℕ) where
  linked_in : (p : List Step) (x : ℕ) → Walk (Backward shop at) r p x → (steps : List Step) × Linked shop at x steps r × (walk_back x steps ≡ p)
  linked_in [] x l = ([], sym l, refl)
  linked_in (s ∷ q) x l =
      let y = l.0 in
      let e = l.2 in
      let rest : (steps : List Step) × Linked shop at y steps r × (walk_back y steps ≡ q) = linked_in q y l.1 in (
        record { ticket = s.ticket; mill = y } ∷ rest.0,
        (e.1, e.2 ∙ ap Some l.3, e.0, e.3, rest.1),
        ap₂ ◌∷◌ (same_step (record { ticket = s.ticket; mill = x }) s refl (sym l.3)) rest.2,
      )

  pub back_chain : (p : List Step) (x : ℕ) → x < shop.mills → Walk (Backward shop at) r p x → Distinct (nodes_on r p) → WayBack shop at r p x
  back_chain p x low l once =
      let y = linked_in p x l in
      record {
        steps = y.0;
        chain = record { start = low; linked = y.1; once = subst Distinct (ap (nodes_on r) (sym y.2) ∙ nodes_back shop at x y.0 r y.1) once };
        is = y.2;
      }

  linked_back : (x : ℕ) (steps : List Step) → Linked shop at x steps r → Walk (Backward shop at) r (walk_back x steps) x
  linked_back x [] l = sym l
  linked_back x (s ∷ ss) l = (s.mill, linked_back s.mill ss l.4, (l.2, l.0, l.1, l.3), refl)

  pub chain_back : (x : ℕ) (steps : List Step) → Chain shop at x steps r → Walk (Backward shop at) r (walk_back x steps) x
  chain_back x steps c = linked_back x steps c.linked

-- the chain that is carried out, and its walk
pub record ChosenBack (shop : Shop) (at : Placement) (r : ℕ) (p : List Step) (x : ℕ) : Type 0 where
  pub steps : List Step
  pub shifting : Shifting shop at x steps r
  pub is : walk_back x steps ≡ p

-- x has the greatest load at the places of a queue
pub queue_greatest : (shop : Shop) (at : Placement) (queue : List ℕ) (g : ℕ)
    → ((j : ℕ) → j < length queue → load shop at (get_or queue j 0) ≤ g) → (z : ℕ) → In z queue → load shop at z ≤ g
queue_greatest shop at queue g greatest z i = omega (arith, greatest (index_in z queue) (index_below z queue i), ap (load shop at) (place_index z queue i))

module _ (shop : Shop) (at : Placement) (r : ℕ) {queue : List ℕ} {path : ℕ → List Step} {looked : ℕ → Step → Bool} (F : Found (Backward shop at) r queue path looked) where
  pub back_mills : SemiMatching shop at → r < shop.mills → (z : ℕ) → In z queue → z < shop.mills
  back_mills semi low z i =
      ⊎_elim
      (λ (e : z ≡ r). omega arith)
      (λ (l : Link (Backward shop at) queue path z). omega (arith, semi l.step.ticket l.step.mill l.may.1 l.may.2, l.to))
      (F.tree z i)

  -- the search has looked at all steps
  module _ (all : (x : ℕ) (s : Step) → In x queue → Backward shop at x s → looked x s ≡ true) where
    pub chain_reached : (y : ℕ) (ss : List Step) → Chain shop at y ss r → In y queue × NotAfter (path y) (walk_back y ss)
    chain_reached y ss c = complete F all (walk_back y ss) y (chain_back shop at r y ss c)

    -- x at place k is the first in the queue of those with the greatest load
    pub choose_greatest : (k x : ℕ) → k < length queue → get_or queue k 0 ≡ x → x < shop.mills → load shop at r + 2 ≤ load shop at x
        → ((j : ℕ) → j < length queue → load shop at (get_or queue j 0) ≤ load shop at x)
        → ((j : ℕ) → j < k → load shop at (get_or queue j 0) < load shop at x)
        → ChosenBack shop at r (path x) x
    choose_greatest k x under is low improves greatest earliest =
        let within : In x queue = subst (λ z. In z queue) is (in_place queue k under) in
        let place : index_in x queue ≡ k = ap (λ z. index_in z queue) (sym is) ∙ index_place queue k F.once under in
        let y = back_chain shop at r (path x) x low (walk F x within) (path_once F x within) in
        record {
          steps = y.steps;
          shifting = record {
            chain = y.chain;
            improves = improves;
            greatest = λ z ss c. queue_greatest shop at queue (load shop at x) greatest z (chain_reached z ss c).0;
            first = λ z ss c same.
                let there = chain_reached z ss c in
                subst (λ q. NotAfter q (walk_back z ss)) (sym y.is)
                (⊎_elim
                (λ (lt : index_in z queue < k). absurd (omega (arith, earliest (index_in z queue) lt, ap (load shop at) (place_index z queue there.0))))
                (λ (ge : k ≤ index_in z queue). not_after_trans (path x) (path z) (walk_back z ss) (ordered_place path queue x z F.sorted within there.0 (omega arith)) there.1)
                (cases_lt (index_in z queue) k));
          };
          is = y.is;
        }

    pub none_improving : ((j : ℕ) → j < length queue → load shop at (get_or queue j 0) ≤ load shop at r + 1) → (y : ℕ) (ss : List Step) → Chain shop at y ss r → Improving shop at y r → ⊥
    none_improving few y ss c better = omega (arith, queue_greatest shop at queue (load shop at r + 1) few y (chain_reached y ss c).0)

    -- with each mill in the queue, those on which its tickets stand
    pub back_on : (t a b : ℕ) → t < shop.tickets → at t ≡ Some a → b < shop.mills → shop.can t b ≡ true → In b queue → In a queue
    back_on t a b k stands low may i =
        let e : Backward shop at b (record { ticket = t; mill = a }) = (low, k, stands, may) in
        (F.covers b (record { ticket = t; mill = a }) i e (all _ _ i e)).0

    module _ (R : ℕ → Bool) (tells : (m : ℕ) → m < shop.mills → Decides (R m) (In m queue)) where
      pub back_has : r < shop.mills → R r ≡ true
      back_has low = (tells r low).1 F.root.0

      pub back_closed : SemiMatching shop at → (t a b : ℕ) → t < shop.tickets → at t ≡ Some a → b < shop.mills → shop.can t b ≡ true → R b ≡ true → R a ≡ true
      back_closed semi t a b k stands low may has = (tells a (semi t a k stands).0).1 (back_on t a b k stands low may ((tells b low).0 has))

    -- the potential when the chain is carried out, and when there is none to carry out
    module _ (P : Potential shop position at (λ m. m ≡ r)) where
      abbrev reach : ℕ → Bool
      reach m = is_in m queue

      has : reach r ≡ true
      has = (is_in_lem r queue).1 F.root.0

      closed : (t a b : ℕ) → t < shop.tickets → at t ≡ Some a → b < shop.mills → shop.can t b ≡ true → reach b ≡ true → reach a ≡ true
      closed t a b k stands low may here = (is_in_lem a queue).1 (back_on t a b k stands low may ((is_in_lem b queue).0 here))

      pub finish_potential : ((j : ℕ) → j < length queue → load shop at (get_or queue j 0) ≤ load shop at r + 1) → Potential shop position at None
      finish_potential few =
          finish shop position at r P reach has closed
          (λ m low here. omega (arith, last_position m (load shop at m), queue_greatest shop at queue (load shop at r + 1) few m ((is_in_lem m queue).0 here)))

      module _ {p : List Step} {x : ℕ} (c : ChosenBack shop at r p x) (greatest : (j : ℕ) → j < length queue → load shop at (get_or queue j 0) ≤ load shop at x) where
        pub shift_potential : Potential shop position (carried at c.steps) (λ m. m ≡ r)
        shift_potential =
            shift_step shop position at r P reach has closed (λ m k one. omega arith) x c.steps c.shifting.chain
            (omega (arith, last_position x (load shop at x), c.shifting.improves))
            (λ m low here. omega (arith, last_position m (load shop at m), last_position x (load shop at x), queue_greatest shop at queue (load shop at x) greatest m ((is_in_lem m queue).0 here)))

        -- the room at r was for one ticket
        pub shift_last_potential : P.level r ≤ load shop at r + 2 → Potential shop position (carried at c.steps) None
        shift_last_potential room =
            shift_last shop position at r P reach has closed (λ m k one. omega arith) x c.steps c.shifting.chain
            (omega (arith, last_position x (load shop at x), c.shifting.improves))
            (λ m low here. omega (arith, last_position m (load shop at m), last_position x (load shop at x), queue_greatest shop at queue (load shop at x) greatest m ((is_in_lem m queue).0 here)))
            room

-- what each turn of the search keeps
module _ (shop : Shop) (at : Placement) (r : ℕ) where
  pub back_start : Searched (Backward shop at) r (r ∷ []) (λ _. []) 0 0 0
  back_start = search_start (Backward shop at) r 0 (λ s may. omega arith)

  -- at the mill v in place h
  module _ {queue : List ℕ} {path : ℕ → List Step} {h t : ℕ} (S : Searched (Backward shop at) r queue path h t 0) (v : ℕ) (low : h < length queue) (is : get_or queue h 0 ≡ v) where
    -- the ticket t stands nowhere, or it may not stand on v
    pub back_skip : ((m : ℕ) → at t ≡ Some m → shop.can t v ≡ true → ⊥) → Searched (Backward shop at) r queue path h (t + 1) 0
    back_skip not = skip_ticket S v low is (λ m e. not m e.2 e.3)

    module _ (m : ℕ) (stands : at t ≡ Some m) where
      only : (s : Step) → Backward shop at v s → s.ticket ≡ t → s.mill ≡ m
      only s e same = let there = e.2 in cc

      pub back_known : In m queue → Searched (Backward shop at) r queue path h (t + 1) 0
      back_known = only_known S v low is m only

      pub back_new : v < shop.mills → t < shop.tickets → shop.can t v ≡ true → (In m queue → ⊥)
          → Searched (Backward shop at) r (queue ++ (m ∷ [])) (updated path m (record { ticket = t; mill = m } ∷ path v)) h (t + 1) 0
      back_new mill k may new = only_new S v low is m only (mill, k, stands, may) new

    pub back_node : shop.tickets ≤ t → Searched (Backward shop at) r queue path (h + 1) 0 0
    back_node end = next_node S v low is (λ s e. omega arith)

  -- every ticket stands on a mill that is found already
  pub back_rest : {queue : List ℕ} {path : ℕ → List Step} {h t b : ℕ} → Searched (Backward shop at) r queue path h t b
      → ((k m : ℕ) → at k ≡ Some m → In m queue) → Searched (Backward shop at) r queue path (length queue) 0 0
  back_rest S known = search_rest S (λ y s i may. known s.ticket s.mill may.2)
