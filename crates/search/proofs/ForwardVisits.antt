-- A whole visit in the search from a new ticket, the next ticket, the next node, and the end.
use Rattle.std.proofs.Common.{◌≡◌, ℕ, zero, suc, ◌+◌, ◌<◌, ◌≤◌, Bool, true, false, cond, eqb, ltb, ◌⊎◌, List, [], ◌∷◌, ◌++◌, length, get_or, Some, None, Decides, Option, sym, refl, ap, ◌∙◌, subst, ap₂, inl, inr, ⊎_elim, add-one, arith}
use Rattle.std.proofs.lemmas.List.{append-nil, append_assoc, length-append, get_or_append_left}
use Rattle.std.proofs.lemmas.Bool.{cases_Bool, both_ways, false≢true, le-ltb, and_left}
use Rattle.std.proofs.lemmas.Bool.Decides.{Decides-eqb, Decides-or}
use Rattle.sets.specs.Sets.{member, numbers}
use Rattle.sets.proofs.Rising.{numbers_more, numbers-none, member-numbers}
use Rattle.semimatching.specs.Placements.{Shop, Placement, load, SemiMatching}
use Rattle.semimatching.specs.Chains.{Step}
use Rattle.semimatching.specs.Searches.{FromTicket}
use Rattle.semimatching.proofs.Carrying.{In}
use Rattle.semimatching.proofs.Places.{in_left}
use Rattle.semimatching.proofs.Search.{Found}
use Rattle.semimatching.proofs.SearchSteps.{all_looked}
use Rattle.semimatching.proofs.Links.{Links}
use Rattle.semimatching.proofs.ForwardSearch.{Chosen, choose_complete, complete_potential, entry_end, forward_ticket, forward_skip, forward_node}
use Rattle.search.specs.Firsts.{Lightest}
use Rattle.search.specs.Routes.{Leads, Route, Explored}
use Rattle.search.proofs.FirstSteps.{lightest_at, lightest_before}
use Rattle.search.proofs.ForwardSteps.{Going, going_none, going_known, going_new, going_stop, lightest_in, node_at, found_below, leads}

pub is_member : (x : ℕ) (xs : List ℕ) → Decides (member x xs) (In x xs)
is_member x [] = (λ e. absurd (false≢true e), λ i. absurd i)
is_member x (y ∷ ys) = Decides-or (eqb x y) (member x ys) (Decides-eqb x y) (is_member x ys)

in_append : (x : ℕ) (xs ys : List ℕ) → In x (xs ++ ys) → In x xs ⊎ In x ys
in_append x [] ys i = inr i
in_append x (y ∷ xs) ys (inl e) = inl (inl e)
in_append x (y ∷ xs) ys (inr i) = ⊎_elim (λ (here : In x xs). inl (inr here)) (λ (there : In x ys). inr there) (in_append x xs ys i)

pub in_right : (x : ℕ) (xs ys : List ℕ) → In x ys → In x (xs ++ ys)
in_right x [] ys i = i
in_right x (y ∷ xs) ys i = inr (in_right x xs ys i)

-- the numbers below b do not have b
pub numbers-below : (f : ℕ → Bool) (b : ℕ) → In b (numbers f b) → ⊥
numbers-below f b i =
    both_ways (member b (numbers f b)) (member-numbers f b b ∙ and_left (ltb b b) (f b) (le-ltb b b (omega arith))) ((is_member b (numbers f b)).1 i)

pub numbers_with : (f : ℕ → Bool) (b : ℕ) → f b ≡ true → numbers f (b + 1) ≡ numbers f b ++ (b ∷ [])
numbers_with f b y = numbers_more f b ∙ ap (λ t. numbers f b ++ cond t (b ∷ []) []) y

numbers-without : (f : ℕ → Bool) (b : ℕ) → f b ≡ false → numbers f (b + 1) ≡ numbers f b
numbers-without f b no_more = numbers_more f b ∙ ap (λ t. numbers f b ++ cond t (b ∷ []) []) no_more ∙ append-nil (numbers f b)

-- other links that agree on what was reached
pub going_links : (shop : Shop) (at : Placement) (n : ℕ) (queue : List ℕ) (ticket ticket' : ℕ → ℕ) (from from' : ℕ → Option ℕ) (h t b : ℕ)
    → ((y : ℕ) → In y queue → (ticket' y ≡ ticket y) × (from' y ≡ from y))
    → Going shop at n queue ticket from h t b → Going shop at n queue ticket' from' h t b
going_links shop at n queue ticket ticket' from from' h t b same G = record {
  path = G.path;
  searched = G.searched;
  links = λ y i ne.
      let was = G.links y i ne in
      let is = same y (⊎_elim (λ (e : y ≡ shop.mills). absurd (ne e)) (λ (j : In y queue). j) i) in (
        subst (λ o. In (node_at shop.mills o) (shop.mills ∷ queue)) (sym is.1) was.0,
        was.1 ∙ ap₂ (λ k o. record { ticket = k; mill = y } ∷ G.path (node_at shop.mills o)) (sym is.0) (sym is.1),
      );
  inside = λ m i v e. G.inside m i v (sym (same m i).1 ∙ e);
  busy = G.busy;
}

-- by the ticket t the node v leads to the mills that pass a test
pub record Leaves (shop : Shop) (at : Placement) (n v t : ℕ) (can : ℕ → Bool) : Type 0 where
  pub may : (m : ℕ) → m < shop.mills → can m ≡ true → FromTicket shop at n v (record { ticket = t; mill = m })
  pub only : (m : ℕ) → FromTicket shop at n v (record { ticket = t; mill = m }) → can m ≡ true

module _ (shop : Shop) (at : Placement) (n : ℕ) (can : ℕ → Bool) where
  pub leaves_ticket : ((m : ℕ) → shop.can n m ≡ can m) → Leaves shop at n shop.mills n can
  leaves_ticket same = record {
    may = λ m below y. inl (refl, refl, below, same m ∙ y);
    only = λ m. ⊎_elim (λ e. sym (same m) ∙ e.3) (λ e. absurd (omega arith));
  }

  pub leaves_mill : (v t : ℕ) → v < shop.mills → t < shop.tickets → at t ≡ Some v → ((m : ℕ) → shop.can t m ≡ can m) → Leaves shop at n v t can
  leaves_mill v t low exists stands same = record {
    may = λ m below y. inr (low, (exists, stands, below, same m ∙ y));
    only = λ m. ⊎_elim (λ e. absurd (omega arith)) (λ e. sym (same m) ∙ e.1.3);
  }

-- the mills of the ticket that are not in the queue
pub record New (old : List ℕ) (can new : ℕ → Bool) : Type 0 where
  pub anew : (m : ℕ) → new m ≡ true → (can m ≡ true) × (In m old → ⊥)
  pub others : (m : ℕ) → new m ≡ false → (can m ≡ false) ⊎ In m old

module _ (shop : Shop) (at : Placement) (n : ℕ) (old : List ℕ) (ticket : ℕ → ℕ) (from : ℕ → Option ℕ) (by : Option ℕ) (h t v : ℕ)
    (low : h < length (shop.mills ∷ old)) (is : get_or (shop.mills ∷ old) h 0 ≡ v)
    (node : node_at shop.mills by ≡ v) (by_mill : (x : ℕ) → by ≡ Some x → x < shop.mills) {can new : ℕ → Bool} (L : Leaves shop at n v t can) (N : New old can new) (G : Going shop at n old ticket from h t 0) where
  abbrev Linked : ℕ → Type 0
  Linked b = (m : ℕ) → m < b → new m ≡ true → (ticket m ≡ t) × (from m ≡ by)

  abbrev Some_on : ℕ → Type 0
  Some_on b = (m : ℕ) → m < b → new m ≡ true → 0 < load shop at m

  abbrev so_far : ℕ → List ℕ
  so_far b = old ++ numbers new b

  low_on : (b : ℕ) → h < length (shop.mills ∷ so_far b)
  low_on b = omega (arith, length-append old (numbers new b))

  is_on : (b : ℕ) → get_or (shop.mills ∷ so_far b) h 0 ≡ v
  is_on b = get_or_append_left (shop.mills ∷ old) (numbers new b) 0 h low ∙ is

  not_yet : (b : ℕ) → new b ≡ true → In b (so_far b) → ⊥
  not_yet b y i = ⊎_elim (λ (j : In b old). (N.anew b y).1 j) (λ (j : In b (numbers new b)). numbers-below new b j) (in_append b old (numbers new b) i)

  with_it : (b : ℕ) → new b ≡ true → so_far b ++ (b ∷ []) ≡ so_far (b + 1)
  with_it b y = append_assoc old (numbers new b) (b ∷ []) ∙ ap (λ l. old ++ l) (sym (numbers_with new b y))

  visited_one : (b : ℕ) → b < shop.mills → Linked (b + 1) → Some_on (b + 1) → Going shop at n (so_far b) ticket from h t b → Going shop at n (so_far (b + 1)) ticket from h t (b + 1)
  visited_one b below linked busy so =
      ⊎_elim
      (λ (y : new b ≡ true).
      let link = linked b (omega arith) y in
      subst (λ q. Going shop at n q ticket from h t (b + 1)) (with_it b y)
      (going_new shop at n so v (low_on b) (is_on b) (L.may b below (N.anew b y).0) (not_yet b y) link.0 (ap (node_at shop.mills) link.1 ∙ node) (λ x e. by_mill x (sym link.1 ∙ e)) (busy b (omega arith) y)))
      (λ (not_new : new b ≡ false).
      subst (λ q. Going shop at n q ticket from h t (b + 1)) (ap (λ l. old ++ l) (sym (numbers-without new b not_new)))
      (⊎_elim
      (λ (cannot : can b ≡ false). going_none shop at n so v (low_on b) (is_on b) (λ e. both_ways (can b) cannot (L.only b e)))
      (λ (i : In b old). going_known shop at n so v (low_on b) (is_on b) (in_left b old (numbers new b) i))
      (N.others b not_new)))
      (cases_Bool (new b))

  -- every new mill below b was reached
  pub visited_to : (b : ℕ) → b ≤ shop.mills → Linked b → Some_on b → Going shop at n (old ++ numbers new b) ticket from h t b
  visited_to zero below linked busy =
      subst (λ q. Going shop at n q ticket from h t 0) (sym (ap (λ l. old ++ l) (numbers-none new 0 (λ k l. absurd (omega arith))) ∙ append-nil old)) G
  visited_to (suc b) below linked busy =
      let so : Going shop at n (so_far b) ticket from h t b = visited_to b (omega arith) (λ m l. linked m (omega arith)) (λ m l. busy m (omega arith)) in
      subst (λ k. Going shop at n (so_far k) ticket from h t k) (add-one b)
      (visited_one b (omega arith) (λ m l. linked m (omega arith)) (λ m l. busy m (omega arith)) so)

  -- the new mills below w were reached, and w is empty
  pub visited_stop : (w : ℕ) → w < shop.mills → Linked (w + 1) → Some_on w → new w ≡ true → load shop at w ≡ 0 → n < shop.tickets → at n ≡ None
      → Explored shop at n (old ++ numbers new (w + 1)) ticket from
  visited_stop w below linked busy y empty here away =
      let so : Going shop at n (so_far w) ticket from h t w = visited_to w (omega arith) (λ m l. linked m (omega arith)) busy in
      let link = linked w (omega arith) y in
      subst (λ q. Explored shop at n q ticket from) (with_it w y)
      (going_stop shop at n so v (low_on w) (is_on w) (L.may w below (N.anew w y).0) (not_yet w y) link.0 (ap (node_at shop.mills) link.1 ∙ node) (λ x e. by_mill x (sym link.1 ∙ e)) empty here away)

-- on to the next ticket and the next node
module _ (shop : Shop) (at : Placement) (n : ℕ) {queue : List ℕ} {ticket : ℕ → ℕ} {from : ℕ → Option ℕ} where
  pub going_in : Going shop at n queue ticket from 0 n shop.mills → Going shop at n queue ticket from 1 0 0
  going_in G = record { path = G.path; searched = entry_end shop at n G.searched (omega arith); links = G.links; inside = G.inside; busy = G.busy }

  module _ {h t b : ℕ} (G : Going shop at n queue ticket from h t b) (v : ℕ) (low : h < length (shop.mills ∷ queue)) (is : get_or (shop.mills ∷ queue) h 0 ≡ v) (mill : v < shop.mills) where
    pub going_ticket : shop.mills ≤ b → Going shop at n queue ticket from h (t + 1) 0
    going_ticket end = record { path = G.path; searched = forward_ticket shop at n G.searched v low is mill end; links = G.links; inside = G.inside; busy = G.busy }

    pub going_skip : (at t ≡ Some v → ⊥) → Going shop at n queue ticket from h (t + 1) 0
    going_skip off = record { path = G.path; searched = forward_skip shop at n G.searched v low is mill off; links = G.links; inside = G.inside; busy = G.busy }

    pub going_node : shop.tickets ≤ t → Going shop at n queue ticket from (h + 1) 0 0
    going_node end = record { path = G.path; searched = forward_node shop at n G.searched v low is mill end; links = G.links; inside = G.inside; busy = G.busy }

-- the end: every step was looked at
module _ (shop : Shop) (at : Placement) (n : ℕ) {queue : List ℕ} {path : ℕ → List Step} {looked : ℕ → Step → Bool} {ticket : ℕ → ℕ} {from : ℕ → Option ℕ}
    (F : Found (FromTicket shop at n) shop.mills (shop.mills ∷ queue) path looked) (links : Links shop.mills (shop.mills ∷ queue) path ticket (λ m. node_at shop.mills (from m)))
    (inside : (m : ℕ) → In m queue → (v : ℕ) → from m ≡ Some v → v < shop.mills)
    (all : (x : ℕ) (s : Step) → In x (shop.mills ∷ queue) → FromTicket shop at n x s → looked x s ≡ true)
    (here : n < shop.tickets) (away : at n ≡ None) (semi : SemiMatching shop at) where
  module _ (w : ℕ) (light : Lightest (load shop at) queue w) (mill : w < shop.mills) where
    least : (j : ℕ) → j < length (shop.mills ∷ queue) → get_or (shop.mills ∷ queue) j 0 < shop.mills → load shop at w ≤ load shop at (get_or (shop.mills ∷ queue) j 0)
    least zero l below = absurd (omega arith)
    least (suc j) l below = lightest_at (load shop at) queue w light j (omega arith)

    earliest : (j : ℕ) → j < suc light.place → get_or (shop.mills ∷ queue) j 0 < shop.mills → load shop at w < load shop at (get_or (shop.mills ∷ queue) j 0)
    earliest zero l below = absurd (omega arith)
    earliest (suc j) l below = lightest_before (load shop at) queue w light j (omega arith)

    chosen : Chosen shop at n (path w) w
    chosen = choose_complete shop at n F all (suc light.place) w (omega (arith, light.best.0)) light.is mill least earliest

    end_route : Route shop at n ticket from w
    end_route = record {
      first = chosen.first;
      steps = chosen.steps;
      placing = chosen.placing;
      links = subst (λ p. Leads shop.mills ticket from p w) (sym chosen.is) (leads shop at n F ticket from links inside w (lightest_in (load shop at) queue w light));
      keeps = λ P. complete_potential shop at n chosen here away P semi F all least;
    }

  pub found_all : Explored shop at n queue ticket from
  found_all w light = end_route w light (found_below shop at n F ticket from links inside w (lightest_in (load shop at) queue w light))

-- what was found is enough when no step leads out of the queue
pub found_early : (shop : Shop) (at : Placement) (n : ℕ) {queue : List ℕ} {path : ℕ → List Step} {looked : ℕ → Step → Bool}
    → Found (FromTicket shop at n) shop.mills queue path looked
    → ((x : ℕ) (s : Step) → In x queue → FromTicket shop at n x s → In s.mill queue)
    → Found (FromTicket shop at n) shop.mills queue path (λ _ _. true)
found_early shop at n {looked} F closed = record {
  root = F.root;
  once = F.once;
  sorted = F.sorted;
  tree = F.tree;
  covers = λ x s i may seen.
      ⊎_elim
      (λ (was : looked x s ≡ true). F.covers x s i may was)
      (λ (yet : looked x s ≡ false). (closed x s i may, inr (F.ahead x s i may yet s.mill (closed x s i may))))
      (cases_Bool (looked x s));
  ahead = λ x s i may unseen. absurd (both_ways true unseen refl);
}

module _ (shop : Shop) (at : Placement) (n : ℕ) {queue : List ℕ} {ticket : ℕ → ℕ} {from : ℕ → Option ℕ} {h t b : ℕ} (G : Going shop at n queue ticket from h t b)
    (here : n < shop.tickets) (away : at n ≡ None) (semi : SemiMatching shop at) where
  -- the search is through the queue
  pub going_end : length (shop.mills ∷ queue) ≤ h → Explored shop at n queue ticket from
  going_end end = found_all shop at n G.searched.found G.links G.inside (all_looked G.searched end) here away semi

  -- every mill that a ticket may stand on is reached
  pub going_early : ((k m : ℕ) → m < shop.mills → shop.can k m ≡ true → In m queue) → Explored shop at n queue ticket from
  going_early reached =
      found_all shop at n
      (found_early shop at n G.searched.found
      (λ x s i. ⊎_elim (λ e. inr (reached n s.mill e.2 e.3)) (λ e. inr (reached s.ticket s.mill e.1.2 e.1.3))))
      G.links G.inside (λ x s i may. refl) here away semi
