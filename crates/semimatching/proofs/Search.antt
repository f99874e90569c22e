-- A search that looks at the steps in the order of the walks they end finds for each node the walk that is first.
use Rattle.std.proofs.Common.{◌≡◌, ℕ, zero, suc, ◌<◌, ◌≤◌, Bool, true, false, cond, eqb, ◌⊎◌, List, [], ◌∷◌, ◌++◌, length, get_or, sym, refl, ap, ◌∙◌, subst, subst₂, inl, inr, ⊎_elim, arith}
use Rattle.std.proofs.lemmas.Bool.{cases_eq, cases_Bool, cond-true, cond-false, eq-eqb, ne_eqb, both_ways}
use Rattle.semimatching.specs.Chains.{Step, Distinct}
use Rattle.semimatching.specs.Walks.{Before, NotAfter, Edges, Walk}
use Rattle.semimatching.proofs.Carrying.{In}
use Rattle.semimatching.proofs.WalkOrder.{before_trans, before_longer, before_nil, not_after_trans, not_after_cons, not_after_longer}
use Rattle.semimatching.proofs.Places.{not_in, in_left, in_last, in_push, in_later, distinct_push, index_in, index_here, index_there, index_same}

-- each node of the list has a walk before those of the nodes behind it
abbrev pub Ordered : (ℕ → List Step) → List ℕ → Type 0
Ordered path [] = Unit {0}
Ordered path (x ∷ xs) = ((y : ℕ) → In y xs → Before (path x) (path y)) × Ordered path xs

-- the walk of y is that of a found node, and one step more
pub record Link (edge : Edges) (queue : List ℕ) (path : ℕ → List Step) (y : ℕ) : Type 0 where
  pub from : ℕ
  pub step : Step
  pub within : In from queue
  pub may : edge from step
  pub to : step.mill ≡ y
  pub is : path y ≡ step ∷ path from

-- the nodes found, in their order; for each its walk; and which steps were looked at
pub record Found (edge : Edges) (start : ℕ) (queue : List ℕ) (path : ℕ → List Step) (looked : ℕ → Step → Bool) : Type 0 where
  pub root : In start queue × (path start ≡ [])
  pub once : Distinct queue
  pub sorted : Ordered path queue
  pub tree : (y : ℕ) → In y queue → (y ≡ start) ⊎ Link edge queue path y
  pub covers : (x : ℕ) (s : Step) → In x queue → edge x s → looked x s ≡ true → In s.mill queue × NotAfter (path s.mill) (s ∷ path x)
  pub ahead : (x : ℕ) (s : Step) → In x queue → edge x s → looked x s ≡ false → (y : ℕ) → In y queue → Before (path y) (s ∷ path x)

-- the start, of which nothing was looked at
pub begin : (edge : Edges) (start : ℕ) (looked : ℕ → Step → Bool) → ((s : Step) → edge start s → looked start s ≡ false) → Found edge start (start ∷ []) (λ _. []) looked
begin edge start looked none = record {
  root = (inl refl, refl);
  once = (tt, tt);
  sorted = (λ y i. absurd i, tt);
  tree = λ y i. ⊎_elim (λ (e : y ≡ start). inl e) (λ i. absurd i) i;
  covers = λ x s i may seen. absurd (⊎_elim (λ (e : x ≡ start). both_ways (looked start s) (none s (subst (λ k. edge k s) e may)) (ap (λ k. looked k s) (sym e) ∙ seen)) (λ i. i) i);
  ahead = λ x s i may seen y j. before_longer s [];
}

-- the walks with another one at the node m
abbrev pub updated : (ℕ → List Step) → ℕ → List Step → ℕ → List Step
updated path m p k = cond (eqb k m) p (path k)

ordered_push : (path after : ℕ → List Step) (xs : List ℕ) (m : ℕ) → ((k : ℕ) → In k xs → after k ≡ path k) → ((k : ℕ) → In k xs → Before (path k) (after m))
    → Ordered path xs → Ordered after (xs ++ (m ∷ []))
ordered_push path after [] m same last sorted = (λ y i. absurd i, tt)
ordered_push path after (x ∷ xs) m same last sorted = (
  λ y i. ⊎_elim
      (λ (j : In y xs). subst₂ Before (sym (same x (inl refl))) (sym (same y (inr j))) (sorted.0 y j))
      (λ (e : y ≡ m). subst₂ Before (sym (same x (inl refl))) (ap after (sym e)) (last x (inl refl)))
      (in_push y xs m i),
  ordered_push path after xs m (λ k i. same k (inr i)) (λ k i. last k (inr i)) sorted.1,
)

module _ {edge : Edges} {start : ℕ} {queue : List ℕ} {path : ℕ → List Step} {looked : ℕ → Step → Bool} (F : Found edge start queue path looked)
    (looked' : ℕ → Step → Bool) (kept : (y : ℕ) (r : Step) → In y queue → edge y r → looked y r ≡ true → looked' y r ≡ true) where
  still : (y : ℕ) (r : Step) → In y queue → edge y r → looked' y r ≡ false → looked y r ≡ false
  still y r i may unseen = ⊎_elim (λ (seen : looked y r ≡ true). absurd (both_ways (looked' y r) unseen (kept y r i may seen))) (λ (e : looked y r ≡ false). e) (cases_Bool (looked y r))

  -- no step more was looked at
  pub look_none : ((y : ℕ) (r : Step) → In y queue → edge y r → looked' y r ≡ true → looked y r ≡ true) → Found edge start queue path looked'
  look_none only = record {
    root = F.root;
    once = F.once;
    sorted = F.sorted;
    tree = F.tree;
    covers = λ y r i may seen. F.covers y r i may (only y r i may seen);
    ahead = λ y r i may unseen. F.ahead y r i may (still y r i may unseen);
  }

  -- every step leads to a node that is known
  pub look_rest : ((y : ℕ) (r : Step) → In y queue → edge y r → In r.mill queue) → Found edge start queue path looked'
  look_rest known = record {
    root = F.root;
    once = F.once;
    sorted = F.sorted;
    tree = F.tree;
    covers = λ y r i may seen.
        ⊎_elim
        (λ (was : looked y r ≡ true). F.covers y r i may was)
        (λ (unseen : looked y r ≡ false). (known y r i may, inr (F.ahead y r i may unseen r.mill (known y r i may))))
        (cases_Bool (looked y r));
    ahead = λ y r i may unseen. F.ahead y r i may (still y r i may unseen);
  }

  module _ (x : ℕ) (s : Step) (within : In x queue) (unseen : looked x s ≡ false)
      (only : (y : ℕ) (r : Step) → In y queue → edge y r → looked' y r ≡ true → (looked y r ≡ true) ⊎ ((y ≡ x) × (r ≡ s))) where
    -- one step more was looked at, and it leads to a node that is known
    pub look_known : In s.mill queue → Found edge start queue path looked'
    look_known known = record {
      root = F.root;
      once = F.once;
      sorted = F.sorted;
      tree = F.tree;
      covers = λ y r i able seen.
          ⊎_elim
          (λ (was : looked y r ≡ true). F.covers y r i able was)
          (λ (e : (y ≡ x) × (r ≡ s)).
          subst₂ (λ (k : ℕ) (q : Step). In q.mill queue × NotAfter (path q.mill) (q ∷ path k)) (sym e.0) (sym e.1)
          (known, inr (F.ahead x s within (subst₂ edge e.0 e.1 able) unseen s.mill known)))
          (only y r i able seen);
      ahead = λ y r i able unseen. F.ahead y r i able (still y r i able unseen);
    }

    -- one step more was looked at, and it leads to a new node, whose walk is after those found and before those yet to be found
    module _ (may : edge x s) (new : In s.mill queue → ⊥)
        (next : (y : ℕ) (r : Step) → In y queue → edge y r → looked' y r ≡ false → Before (s ∷ path x) (r ∷ path y))
        (none : (r : Step) → edge s.mill r → looked' s.mill r ≡ false) where
      abbrev m : ℕ
      m = s.mill

      abbrev after : ℕ → List Step
      after = updated path m (s ∷ path x)

      abbrev more : List ℕ
      more = queue ++ (m ∷ [])

      here : after m ≡ s ∷ path x
      here = cond-true _ _ _ (eq-eqb m m refl)

      same : (k : ℕ) → In k queue → after k ≡ path k
      same k i = cond-false _ _ _ (ne_eqb k m (λ e. new (subst (λ j. In j queue) e i)))

      last : (k : ℕ) → In k queue → Before (path k) (s ∷ path x)
      last k i = F.ahead x s within may unseen k i

      link : (y : ℕ) → In y queue → Link edge queue path y → Link edge more after y
      link y i l = record {
        from = l.from;
        step = l.step;
        within = in_left l.from queue _ l.within;
        may = l.may;
        to = l.to;
        is = same y i ∙ l.is ∙ ap (λ p. l.step ∷ p) (sym (same l.from l.within));
      }

      new_tree : (y : ℕ) → In y more → (y ≡ start) ⊎ Link edge more after y
      new_tree y i =
          ⊎_elim
          (λ (j : In y queue). ⊎_elim (λ (e : y ≡ start). inl e) (λ (l : Link edge queue path y). inr (link y j l)) (F.tree y j))
          (λ (e : y ≡ m). inr (record {
            from = x;
            step = s;
            within = in_left x queue _ within;
            may = may;
            to = sym e;
            is = ap after e ∙ here ∙ ap (λ p. s ∷ p) (sym (same x within));
          }))
          (in_push y queue m i)

      new_covers : (y : ℕ) (r : Step) → In y more → edge y r → looked' y r ≡ true → In r.mill more × NotAfter (after r.mill) (r ∷ after y)
      new_covers y r i able seen =
          ⊎_elim
          (λ (j : In y queue).
          ⊎_elim
          (λ (was : looked y r ≡ true).
          let old = F.covers y r j able was in (
            in_left r.mill queue _ old.0,
            subst₂ (λ p q. NotAfter p (r ∷ q)) (sym (same r.mill old.0)) (sym (same y j)) old.1,
          ))
          (λ (e : (y ≡ x) × (r ≡ s)).
          subst₂ (λ (k : ℕ) (q : Step). In q.mill more × NotAfter (after q.mill) (q ∷ after k)) (sym e.0) (sym e.1)
          (in_last m queue, inl (here ∙ ap (λ p. s ∷ p) (sym (same x within)))))
          (only y r j able seen))
          (λ (e : y ≡ m). absurd (both_ways (looked' m r) (none r (subst (λ k. edge k r) e able)) (ap (λ k. looked' k r) (sym e) ∙ seen)))
          (in_push y queue m i)

      new_ahead : (y : ℕ) (r : Step) → In y more → edge y r → looked' y r ≡ false → (z : ℕ) → In z more → Before (after z) (r ∷ after y)
      new_ahead y r i able yet z j =
          ⊎_elim
          (λ (a : In y queue).
          subst (λ q. Before (after z) (r ∷ q)) (sym (same y a))
          (⊎_elim
          (λ (b : In z queue). subst (λ p. Before p (r ∷ path y)) (sym (same z b)) (F.ahead y r a able (still y r a able yet) z b))
          (λ (e : z ≡ m). subst (λ p. Before p (r ∷ path y)) (sym (ap after e ∙ here)) (next y r a able yet))
          (in_push z queue m j)))
          (λ (e : y ≡ m).
          subst (λ q. Before (after z) (r ∷ q)) (sym (ap after e ∙ here))
          (⊎_elim
          (λ (b : In z queue). subst (λ p. Before p (r ∷ s ∷ path x)) (sym (same z b)) (before_trans (path z) (s ∷ path x) (r ∷ s ∷ path x) (last z b) (before_longer r (s ∷ path x))))
          (λ (f : z ≡ m). subst (λ p. Before p (r ∷ s ∷ path x)) (sym (ap after f ∙ here)) (before_longer r (s ∷ path x)))
          (in_push z queue m j)))
          (in_push y queue m i)

      pub look_new : Found edge start (queue ++ (s.mill ∷ [])) (updated path s.mill (s ∷ path x)) looked'
      look_new = record {
        root = (in_left start queue _ F.root.0, same start F.root.0 ∙ F.root.1);
        once = distinct_push queue m F.once new;
        sorted = ordered_push path after queue m same (λ k i. subst (Before (path k)) (sym here) (last k i)) F.sorted;
        tree = new_tree;
        covers = new_covers;
        ahead = new_ahead;
      }

head_start : (queue : List ℕ) (path : ℕ → List Step) (start : ℕ) → path start ≡ [] → Ordered path queue → In start queue → (0 < length queue) × (get_or queue 0 0 ≡ start)
head_start [] path start none sorted i = absurd i
head_start (x ∷ xs) path start none sorted (inl e) = (omega arith, sym e)
head_start (x ∷ xs) path start none sorted (inr i) = absurd (before_nil (path x) (subst (Before (path x)) none (sorted.0 start i)))

-- a step that was not looked at, and that ends a walk that is not after p
pub record Open (edge : Edges) (queue : List ℕ) (path : ℕ → List Step) (looked : ℕ → Step → Bool) (p : List Step) : Type 0 where
  pub from : ℕ
  pub step : Step
  pub within : In from queue
  pub may : edge from step
  pub unseen : looked from step ≡ false
  pub not_after : NotAfter (step ∷ path from) p

-- the nodes of a walk, from its last
abbrev pub nodes_on : ℕ → List Step → List ℕ
nodes_on start [] = start ∷ []
nodes_on start (s ∷ p) = s.mill ∷ nodes_on start p

module _ {edge : Edges} {start : ℕ} {queue : List ℕ} {path : ℕ → List Step} {looked : ℕ → Step → Bool} (F : Found edge start queue path looked) where
  -- to the end of each walk p one was found that is not after p, or a step that was not looked at ends a walk not after p
  pub stopped : (p : List Step) (z : ℕ) → Walk edge start p z → (In z queue × NotAfter (path z) p) ⊎ Open edge queue path looked p
  stopped [] z w = inl (subst (λ k. In k queue × NotAfter (path k) []) w (F.root.0, inl F.root.1))
  stopped (s ∷ p) z w =
      let y = w.0 in
      let rest : (In y queue × NotAfter (path y) p) ⊎ Open edge queue path looked p = stopped p y w.1 in
      ⊎_elim
      (λ (i : In y queue × NotAfter (path y) p).
      let on = not_after_cons s (path y) p i.1 in
      ⊎_elim
      (λ (seen : looked y s ≡ true).
      let c = F.covers y s i.0 w.2 seen in
      inl (subst (λ k. In k queue × NotAfter (path k) (s ∷ p)) w.3 (c.0, not_after_trans (path s.mill) (s ∷ path y) (s ∷ p) c.1 on)))
      (λ (unseen : looked y s ≡ false). inr (record { from = y; step = s; within = i.0; may = w.2; unseen = unseen; not_after = on }))
      (cases_Bool (looked y s)))
      (λ (o : Open edge queue path looked p). inr (record {
        from = o.from;
        step = o.step;
        within = o.within;
        may = o.may;
        unseen = o.unseen;
        not_after = not_after_longer s (o.step ∷ path o.from) p o.not_after;
      }))
      rest

  -- every step of every found node was looked at
  pub complete : ((x : ℕ) (s : Step) → In x queue → edge x s → looked x s ≡ true) → (p : List Step) (z : ℕ) → Walk edge start p z → In z queue × NotAfter (path z) p
  complete all p z w =
      ⊎_elim
      (λ (i : In z queue × NotAfter (path z) p). i)
      (λ (o : Open edge queue path looked p). absurd (both_ways (looked o.from o.step) o.unseen (all o.from o.step o.within o.may)))
      (stopped p z w)

  -- the step (x, s) is the first that was not looked at: no walk to a node that is not found is before the one that it ends
  pub first_new : (x : ℕ) (s : Step) → ((y : ℕ) (r : Step) → In y queue → edge y r → looked y r ≡ false → NotAfter (s ∷ path x) (r ∷ path y))
      → (p : List Step) (z : ℕ) → Walk edge start p z → (In z queue → ⊥) → NotAfter (s ∷ path x) p
  first_new x s first p z w out =
      ⊎_elim
      (λ (i : In z queue × NotAfter (path z) p). absurd (out i.0))
      (λ (o : Open edge queue path looked p).
      not_after_trans (s ∷ path x) (o.step ∷ path o.from) p (first o.from o.step o.within o.may o.unseen) o.not_after)
      (stopped p z w)

  -- the start is the first in the queue
  pub start_first : (0 < length queue) × (get_or queue 0 0 ≡ start)
  start_first = head_start queue path start F.root.1 F.sorted F.root.0

  at_start : (x : ℕ) → x ≡ start → path x ≡ []
  at_start x e = ap path e ∙ F.root.1

  walk_under : (k x : ℕ) → In x queue → length (path x) < k → Walk edge start (path x) x
  walk_under zero x i short = absurd (omega arith)
  walk_under (suc k) x i short =
      let rest : (y : ℕ) → In y queue → length (path y) < k → Walk edge start (path y) y = walk_under k in
      ⊎_elim
      (λ (e : x ≡ start). subst (λ p. Walk edge start p x) (sym (at_start x e)) (sym e))
      (λ (l : Link edge queue path x).
      subst (λ p. Walk edge start p x) (sym l.is) (l.from, rest l.from l.within (omega (arith, ap length l.is)), l.may, l.to))
      (F.tree x i)

  -- what was found are walks
  pub walk : (x : ℕ) → In x queue → Walk edge start (path x) x
  walk x i = walk_under (suc (length (path x))) x i (omega arith)

  nodes_under : (k x : ℕ) → In x queue → length (path x) < k → (z : ℕ) → In z (nodes_on start (path x)) → In z queue × (length (path z) ≤ length (path x))
  nodes_under zero x i short z j = absurd (omega arith)
  nodes_under (suc k) x i short z j =
      let rest : (y : ℕ) → In y queue → length (path y) < k → (z : ℕ) → In z (nodes_on start (path y)) → In z queue × (length (path z) ≤ length (path y)) = nodes_under k in
      ⊎_elim
      (λ (e : x ≡ start).
      ⊎_elim
      (λ (here : z ≡ start). (subst (λ v. In v queue) (sym here) F.root.0, omega (arith, ap length (at_start z here))))
      (λ i. absurd i)
      (subst (λ p. In z (nodes_on start p)) (at_start x e) j))
      (λ (l : Link edge queue path x).
      let long = ap length l.is in
      ⊎_elim
      (λ (here : z ≡ l.step.mill). let same : z ≡ x = here ∙ l.to in (subst (λ v. In v queue) (sym same) i, omega (arith, ap (λ v. length (path v)) same)))
      (λ (later : In z (nodes_on start (path l.from))). let r = rest l.from l.within (omega arith) z later in (r.0, omega arith))
      (subst (λ p. In z (nodes_on start p)) l.is j))
      (F.tree x i)

  -- all nodes of a walk that was found are found, and each with no more steps
  pub path_within : (x : ℕ) → In x queue → (z : ℕ) → In z (nodes_on start (path x)) → In z queue × (length (path z) ≤ length (path x))
  path_within x i = nodes_under (suc (length (path x))) x i (omega arith)

  once_under : (k x : ℕ) → In x queue → length (path x) < k → Distinct (nodes_on start (path x))
  once_under zero x i short = absurd (omega arith)
  once_under (suc k) x i short =
      let rest : (y : ℕ) → In y queue → length (path y) < k → Distinct (nodes_on start (path y)) = once_under k in
      ⊎_elim
      (λ (e : x ≡ start). subst (λ p. Distinct (nodes_on start p)) (sym (at_start x e)) (tt, tt))
      (λ (l : Link edge queue path x).
      let long = ap length l.is in
      subst (λ p. Distinct (nodes_on start p)) (sym l.is) (
        not_in l.step.mill _ (λ j. let r = path_within l.from l.within l.step.mill j in omega (arith, r.1, ap (λ v. length (path v)) l.to)),
        rest l.from l.within (omega arith),
      ))
      (F.tree x i)

  -- the nodes of a walk that was found are all different
  pub path_once : (x : ℕ) → In x queue → Distinct (nodes_on start (path x))
  path_once x i = once_under (suc (length (path x))) x i (omega arith)

-- the order of the places is the order of the walks
pub ordered_index : (path : ℕ → List Step) (queue : List ℕ) (x y : ℕ) → Ordered path queue → In x queue → In y queue → index_in x queue < index_in y queue → Before (path x) (path y)
ordered_index path [] x y o i j l = absurd i
ordered_index path (z ∷ zs) x y o i j l =
    let rest : In x zs → In y zs → index_in x zs < index_in y zs → Before (path x) (path y) = ordered_index path zs x y o.1 in
    ⊎_elim
    (λ (b : y ≡ z). absurd (omega (arith, index_here y z zs b)))
    (λ (b : y ≡ z → ⊥).
    ⊎_elim
    (λ (a : x ≡ z). subst (λ k. Before (path k) (path y)) (sym a) (o.0 y (in_later y z zs b j)))
    (λ (a : x ≡ z → ⊥). rest (in_later x z zs a i) (in_later y z zs b j) (omega (arith, index_there x z zs a, index_there y z zs b)))
    (cases_eq x z))
    (cases_eq y z)

pub ordered_place : (path : ℕ → List Step) (queue : List ℕ) (x y : ℕ) → Ordered path queue → In x queue → In y queue → index_in x queue ≤ index_in y queue → NotAfter (path x) (path y)
ordered_place path queue x y o i j l =
    ⊎_elim
    (λ (e : index_in x queue ≡ index_in y queue). inl (ap path (index_same x y queue i j e)))
    (λ (ne : index_in x queue ≡ index_in y queue → ⊥). inr (ordered_index path queue x y o i j (omega arith)))
    (cases_eq (index_in x queue) (index_in y queue))
