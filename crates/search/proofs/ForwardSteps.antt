-- The search from a new ticket as its code goes: what has been reached, by which links, and what a step more gives.
use Rattle.std.proofs.Common.{◌≡◌, ℕ, zero, suc, ◌+◌, ◌<◌, ◌≤◌, Bool, List, [], ◌∷◌, ◌++◌, length, get_or, Some, None, Option, sym, refl, ap, ◌∙◌, subst, subst₂, inl, inr, ⊎_elim, arith, MatchOption}
use Rattle.semimatching.specs.Placements.{Shop, Placement, load}
use Rattle.semimatching.specs.Chains.{Step}
use Rattle.semimatching.specs.Searches.{FromTicket}
use Rattle.semimatching.proofs.Carrying.{In, in_apart}
use Rattle.semimatching.proofs.Places.{in_later, in_last, in_push, in_place, index_in, index_below, place_index}
use Rattle.semimatching.proofs.Search.{Found}
use Rattle.semimatching.proofs.SearchSteps.{Searched, mill-none, mill_known, mill_new, mill_first, node_in}
use Rattle.semimatching.proofs.Links.{Links, links_start, links_new}
use Rattle.semimatching.proofs.ForwardSearch.{Chosen, forward_start, choose_stopped, stopped_potential, queue_mills}
use Rattle.search.specs.Firsts.{Lightest}
use Rattle.search.specs.Routes.{Leads, Route, Explored}
use Rattle.search.proofs.FirstSteps.{lightest_at}

-- the node that a link comes from: a mill, or the start where there is none
abbrev pub node_at : ℕ → Option ℕ → ℕ
node_at start None = start
node_at start (Some v) = v

-- the search has come to place h of the queue (the ticket itself stands before the mills), ticket t and mill b, and has found no empty mill
pub record Going (shop : Shop) (at : Placement) (n : ℕ) (queue : List ℕ) (ticket : ℕ → ℕ) (from : ℕ → Option ℕ) (h t b : ℕ) : Type 0 where
  pub path : ℕ → List Step
  pub searched : Searched (FromTicket shop at n) shop.mills (shop.mills ∷ queue) path h t b
  pub links : Links shop.mills (shop.mills ∷ queue) path ticket (λ m. node_at shop.mills (from m))
  pub inside : (m : ℕ) → In m queue → (v : ℕ) → from m ≡ Some v → v < shop.mills
  pub busy : (m : ℕ) → In m queue → 0 < load shop at m

pub going_start : (shop : Shop) (at : Placement) (n : ℕ) (ticket : ℕ → ℕ) (from : ℕ → Option ℕ) → Going shop at n [] ticket from 0 n 0
going_start shop at n ticket from = record {
  path = λ _. [];
  searched = forward_start shop at n;
  links = links_start shop.mills (λ _. []) ticket (λ m. node_at shop.mills (from m));
  inside = λ m i. absurd i;
  busy = λ m i. absurd i;
}

edge_below : (shop : Shop) (at : Placement) (n y : ℕ) (s : Step) → FromTicket shop at n y s → s.mill < shop.mills
edge_below shop at n y s (inl e) = e.2
edge_below shop at n y s (inr e) = e.1.2

-- the links of what was found spell its walks
module _ (shop : Shop) (at : Placement) (n : ℕ) {queue : List ℕ} {path : ℕ → List Step} {looked : ℕ → Step → Bool}
    (F : Found (FromTicket shop at n) shop.mills (shop.mills ∷ queue) path looked) (ticket : ℕ → ℕ) (from : ℕ → Option ℕ)
    (links : Links shop.mills (shop.mills ∷ queue) path ticket (λ m. node_at shop.mills (from m)))
    (inside : (m : ℕ) → In m queue → (v : ℕ) → from m ≡ Some v → v < shop.mills) where
  pub found_below : (x : ℕ) → In x queue → x < shop.mills
  found_below x i =
      ⊎_elim
      (λ (e : x ≡ shop.mills). absurd (in_apart x shop.mills queue F.once.0 i e))
      (λ (l : x < shop.mills). l)
      (queue_mills shop at n F x (inr i))

  -- the walk to a node before a mill, by the link's kind
  before : (x : ℕ) (o : Option ℕ) → from x ≡ o → ((v : ℕ) → o ≡ Some v → Leads shop.mills ticket from (path v) v)
      → MatchOption (from x) (path (node_at shop.mills (from x)) ≡ []) (Leads shop.mills ticket from (path (node_at shop.mills (from x))))
  before x None e rest = subst (λ o. MatchOption o (path (node_at shop.mills o) ≡ []) (Leads shop.mills ticket from (path (node_at shop.mills o)))) (sym e) F.root.1
  before x (Some v) e rest = subst (λ o. MatchOption o (path (node_at shop.mills o) ≡ []) (Leads shop.mills ticket from (path (node_at shop.mills o)))) (sym e) (rest v refl)

  leads_under : (k x : ℕ) → In x queue → length (path x) < k → Leads shop.mills ticket from (path x) x
  leads_under zero x i short = absurd (omega arith)
  leads_under (suc k) x i short =
      let rest : (y : ℕ) → In y queue → length (path y) < k → Leads shop.mills ticket from (path y) y = leads_under k in
      let below = found_below x i in
      let link = links x (inr i) (λ e. omega arith) in
      subst (λ p. Leads shop.mills ticket from p x) (sym link.1) (
        below,
        refl,
        before x (from x) refl (λ v e.
            let node : node_at shop.mills (from x) ≡ v = ap (node_at shop.mills) e in
            rest v (in_later v shop.mills queue (λ same. omega (arith, inside x i v e)) (subst (λ y. In y (shop.mills ∷ queue)) node link.0))
            (omega (arith, ap length link.1, ap (λ y. length (path y)) node))),
      )

  pub leads : (x : ℕ) → In x queue → Leads shop.mills ticket from (path x) x
  leads x i = leads_under (suc (length (path x))) x i (omega arith)

  -- one step more, from a node that was found
  pub leads_more : (x : ℕ) (o : Option ℕ) → from x ≡ o → ((v : ℕ) → o ≡ Some v → In v queue) → x < shop.mills
      → Leads shop.mills ticket from (record { ticket = ticket x; mill = x } ∷ path (node_at shop.mills (from x))) x
  leads_more x o e rest below = (below, refl, before x o e (λ v is. leads v (rest v is)))

-- the lightest mill of a queue is in it, and no other is lighter
pub lightest_in : (load : ℕ → ℕ) (queue : List ℕ) (w : ℕ) → Lightest load queue w → In w queue
lightest_in load queue w l = subst (λ x. In x queue) l.is (in_place queue l.place l.best.0)

pub lightest_least : (load : ℕ → ℕ) (queue : List ℕ) (w : ℕ) → Lightest load queue w → (z : ℕ) → In z queue → load w ≤ load z
lightest_least load queue w l z i = subst (λ x. load w ≤ load x) (place_index z queue i) (lightest_at load queue w l (index_in z queue) (index_below z queue i))

-- one mill further, at the node v in place h
module _ (shop : Shop) (at : Placement) (n : ℕ) {queue : List ℕ} {ticket : ℕ → ℕ} {from : ℕ → Option ℕ} {h t b : ℕ} (G : Going shop at n queue ticket from h t b)
    (v : ℕ) (low : h < length (shop.mills ∷ queue)) (is : get_or (shop.mills ∷ queue) h 0 ≡ v) where
  pub going_none : (FromTicket shop at n v (record { ticket = t; mill = b }) → ⊥) → Going shop at n queue ticket from h t (b + 1)
  going_none none = record { path = G.path; searched = mill-none G.searched v low is none; links = G.links; inside = G.inside; busy = G.busy }

  pub going_known : In b queue → Going shop at n queue ticket from h t (b + 1)
  going_known known = record { path = G.path; searched = mill_known G.searched v low is (inr known); links = G.links; inside = G.inside; busy = G.busy }

  module _ (may : FromTicket shop at n v (record { ticket = t; mill = b })) (new : In b queue → ⊥)
      (by_ticket : ticket b ≡ t) (by_node : node_at shop.mills (from b) ≡ v) (by_mill : (x : ℕ) → from b ≡ Some x → x < shop.mills) where
    below : b < shop.mills
    below = edge_below shop at n v (record { ticket = t; mill = b }) may

    not_yet : In b (shop.mills ∷ queue) → ⊥
    not_yet = ⊎_elim (λ (e : b ≡ shop.mills). omega (arith, below)) (λ (i : In b queue). new i)

    within : In v (shop.mills ∷ queue)
    within = node_in G.searched v low is

    pub going_new : 0 < load shop at b → Going shop at n (queue ++ (b ∷ [])) ticket from h t (b + 1)
    going_new busy = record {
      path = _;
      searched = mill_new G.searched v low is may not_yet;
      links = links_new shop.mills (shop.mills ∷ queue) G.path ticket (λ m. node_at shop.mills (from m)) ticket (λ m. node_at shop.mills (from m))
          b t v within not_yet by_ticket by_node (λ y ne. (refl, refl)) G.links;
      inside = λ m i. ⊎_elim (λ (j : In m queue). G.inside m j) (λ (e : m ≡ b). λ x is. by_mill x (ap from (sym e) ∙ is)) (in_push m queue b i);
      busy = λ m i. ⊎_elim (λ (j : In m queue). G.busy m j) (λ (e : m ≡ b). subst (λ k. 0 < load shop at k) (sym e) busy) (in_push m queue b i);
    }

    module _ (empty : load shop at b ≡ 0) (here : n < shop.tickets) (away : at n ≡ None) where
      busy_places : (j : ℕ) → j < length (shop.mills ∷ queue) → get_or (shop.mills ∷ queue) j 0 < shop.mills → 0 < load shop at (get_or (shop.mills ∷ queue) j 0)
      busy_places zero l mill = absurd (omega arith)
      busy_places (suc j) l mill = G.busy (get_or queue j 0) (in_place queue j (omega arith))

      chosen : Chosen shop at n (record { ticket = t; mill = b } ∷ G.path v) b
      chosen = choose_stopped shop at n G.searched.found v (record { ticket = t; mill = b }) within may (mill_first G.searched v low is) not_yet empty busy_places

      stop_links : Leads shop.mills ticket from (record { ticket = t; mill = b } ∷ G.path v) b
      stop_links =
          subst₂ (λ k x. Leads shop.mills ticket from (record { ticket = k; mill = b } ∷ G.path x) b) by_ticket by_node
          (leads_more shop at n G.searched.found ticket from G.links G.inside b (from b) refl
          (λ x e. in_later x shop.mills queue (λ same. omega (arith, by_mill x e)) (subst (λ y. In y (shop.mills ∷ queue)) (sym by_node ∙ ap (node_at shop.mills) e) within))
          below)

      stop_route : Route shop at n ticket from b
      stop_route = record {
        first = chosen.first;
        steps = chosen.steps;
        placing = chosen.placing;
        links = subst (λ p. Leads shop.mills ticket from p b) (sym chosen.is) stop_links;
        keeps = λ P. stopped_potential shop at n chosen here away P empty;
      }

      -- the mill b is the only empty one
      pub going_stop : Explored shop at n (queue ++ (b ∷ [])) ticket from
      going_stop w light =
          let none = lightest_least (load shop at) (queue ++ (b ∷ [])) w light b (in_last b queue) in
          ⊎_elim
          (λ (i : In w queue). absurd (omega (arith, G.busy w i)))
          (λ (e : w ≡ b). subst (Route shop at n ticket from) (sym e) stop_route)
          (in_push w queue b (lightest_in (load shop at) (queue ++ (b ∷ [])) w light))
