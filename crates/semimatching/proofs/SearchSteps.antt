-- A search through the queue that tries tickets and mills in rising order: what each of its steps keeps.
use Rattle.std.proofs.Common.{◌≡◌, ℕ, ◌+◌, ◌<◌, ◌≤◌, Bool, true, false, ◌&&◌, ◌||◌, eqb, ltb, ◌⊎◌, List, [], ◌∷◌, ◌++◌, length, get_or, Decides, sym, refl, ap, ◌∙◌, subst, inl, inr, ⊎_elim, arith}
use Rattle.std.proofs.lemmas.List.{length-append, get_or_append_left}
use Rattle.std.proofs.lemmas.Bool.{cases_eq, cases_Bool, cases_order}
use Rattle.std.proofs.lemmas.Bool.Decides.{Decides-eqb, Decides-ltb, Decides-and, Decides-or, not_from_Decides}
use Rattle.semimatching.specs.Chains.{Step}
use Rattle.semimatching.specs.Walks.{Sooner, Before, NotAfter, Edges, Walk}
use Rattle.semimatching.proofs.Carrying.{In}
use Rattle.semimatching.proofs.WalkOrder.{same_step, sooner_total, before_cons, sooner_cons}
use Rattle.semimatching.proofs.Places.{index_in, index_below, index_same, index_left, index_last, in_place, index_place}
use Rattle.semimatching.proofs.Search.{Found, begin, updated, look_none, look_rest, look_known, look_new, complete, first_new, ordered_index}

-- at place i of the queue the step s is past, when the search has come to place h, ticket t and mill b
abbrev pub Past : ℕ → ℕ → ℕ → ℕ → Step → Type 0
Past h t b i s = (i < h) ⊎ ((i ≡ h) × Sooner s (record { ticket = t; mill = b }))

abbrev pub past : ℕ → ℕ → ℕ → ℕ → Step → Bool
past h t b i s = ltb i h || (eqb i h && (ltb s.ticket t || (eqb s.ticket t && ltb s.mill b)))

past_decides : (h t b i : ℕ) (s : Step) → Decides (past h t b i s) (Past h t b i s)
past_decides h t b i s =
    Decides-or _ _ (Decides-ltb i h) (Decides-and _ _ (Decides-eqb i h)
    (Decides-or _ _ (Decides-ltb s.ticket t) (Decides-and _ _ (Decides-eqb s.ticket t) (Decides-ltb s.mill b))))

-- the steps looked at when the search has come to a place, a ticket and a mill
abbrev pub looked_at : ℕ → ℕ → ℕ → List ℕ → ℕ → Step → Bool
looked_at h t b queue y s = past h t b (index_in y queue) s

pub record Searched (edge : Edges) (start : ℕ) (queue : List ℕ) (path : ℕ → List Step) (h t b : ℕ) : Type 0 where
  pub found : Found edge start queue path (looked_at h t b queue)

-- what is not past is here or yet to come
after_here : (t b : ℕ) (s : Step) → (Sooner s (record { ticket = t; mill = b }) → ⊥) → (s ≡ record { ticket = t; mill = b }) ⊎ Sooner (record { ticket = t; mill = b }) s
after_here t b s not_sooner = ⊎_elim (λ e. inl e) (⊎_elim (λ a. absurd (not_sooner a)) (λ a. inr a)) (sooner_total s (record { ticket = t; mill = b }))

unseen_since : (h t b i : ℕ) (s : Step) → (Past h t b i s → ⊥) → past h t b i s ≡ false
unseen_since h t b i s not_past =
    ⊎_elim (λ (seen : past h t b i s ≡ true). absurd (not_past ((past_decides h t b i s).0 seen))) (λ (e : past h t b i s ≡ false). e) (cases_Bool (past h t b i s))

-- one mill further, one step more is past
sooner_more : (t b : ℕ) (s : Step) → Sooner s (record { ticket = t; mill = b }) → Sooner s (record { ticket = t; mill = b + 1 })
sooner_more t b s (inl k) = inl k
sooner_more t b s (inr k) = inr (omega arith)

past_more : (h t b i : ℕ) (s : Step) → Past h t b i s → Past h t (b + 1) i s
past_more h t b i s (inl l) = inl l
past_more h t b i s (inr p) = inr (p.0, sooner_more t b s p.1)

sooner_one : (t b : ℕ) (s : Step) → Sooner s (record { ticket = t; mill = b + 1 }) → Sooner s (record { ticket = t; mill = b }) ⊎ (s ≡ record { ticket = t; mill = b })
sooner_one t b s (inl k) = inl (inl k)
sooner_one t b s (inr k) =
    ⊎_elim
    (λ (e : s.mill ≡ b). inr (same_step s (record { ticket = t; mill = b }) k.0 e))
    (λ (ne : s.mill ≡ b → ⊥). inl (inr (omega arith)))
    (cases_eq s.mill b)

past_one : (h t b i : ℕ) (s : Step) → Past h t (b + 1) i s → Past h t b i s ⊎ ((i ≡ h) × (s ≡ record { ticket = t; mill = b }))
past_one h t b i s (inl l) = inl (inl l)
past_one h t b i s (inr p) = ⊎_elim (λ (k : Sooner s (record { ticket = t; mill = b })). inl (inr (p.0, k))) (λ (e : s ≡ record { ticket = t; mill = b }). inr (p.0, e)) (sooner_one t b s p.1)

-- the edges of the start have no ticket below n
pub search_start : (edge : Edges) (start n : ℕ) → ((s : Step) → edge start s → n ≤ s.ticket) → Searched edge start (start ∷ []) (λ _. []) 0 n 0
search_start edge start n low = record {
  found = begin edge start (looked_at 0 n 0 (start ∷ []))
      (λ s may. unseen_since 0 n 0 (index_in start (start ∷ [])) s (λ p. omega (arith, low s may)));
}

-- the search stands at the node v in place h of the queue
module _ {edge : Edges} {start : ℕ} {queue : List ℕ} {path : ℕ → List Step} {h t b : ℕ} (S : Searched edge start queue path h t b)
    (v : ℕ) (low : h < length queue) (at : get_or queue h 0 ≡ v) where
  pub node_in : In v queue
  node_in = subst (λ k. In k queue) at (in_place queue h low)

  node_index : index_in v queue ≡ h
  node_index = ap (λ k. index_in k queue) (sym at) ∙ index_place queue h S.found.once low

  v_only : (y : ℕ) → In y queue → index_in y queue ≡ h → y ≡ v
  v_only y i e = index_same y v queue i node_in (e ∙ sym node_index)

  -- to go on to another place, at which just as many steps are past
  move : (h' t' b' : ℕ)
      → ((y : ℕ) (s : Step) → In y queue → edge y s → Past h t b (index_in y queue) s → Past h' t' b' (index_in y queue) s)
      → ((y : ℕ) (s : Step) → In y queue → edge y s → Past h' t' b' (index_in y queue) s → Past h t b (index_in y queue) s)
      → Searched edge start queue path h' t' b'
  move h' t' b' kept only = record {
    found = look_none S.found (looked_at h' t' b' queue)
        (λ y s i may seen. (past_decides h' t' b' _ s).1 (kept y s i may ((past_decides h t b _ s).0 seen)))
        (λ y s i may seen. (past_decides h t b _ s).1 (only y s i may ((past_decides h' t' b' _ s).0 seen)));
  }

  unseen_here : past h t b (index_in v queue) (record { ticket = t; mill = b }) ≡ false
  unseen_here = unseen_since h t b (index_in v queue) (record { ticket = t; mill = b }) (λ p. omega (arith, node_index))

  -- what is not past at the mill b' of the same ticket: a step of v, or one of a node behind v
  coming : (b' y : ℕ) (r : Step) → In y queue → (Past h t b' (index_in y queue) r → ⊥)
      → ((y ≡ v) × ((r ≡ record { ticket = t; mill = b' }) ⊎ Sooner (record { ticket = t; mill = b' }) r)) ⊎ Before (path v) (path y)
  coming b' y r i not_past =
      ⊎_elim
      (λ (e : index_in y queue ≡ h). inl (v_only y i e, after_here t b' r (λ k. not_past (inr (e, k)))))
      (⊎_elim
      (λ (l : index_in y queue < h). absurd (not_past (inl l)))
      (λ (l : h < index_in y queue). inr (ordered_index path queue v y S.found.sorted node_in i (omega (arith, node_index)))))
      (cases_order (index_in y queue) h)

  -- to go on to a later ticket and mill, where v has no step from here up to there
  pub advance : (t' b' : ℕ) → ((s : Step) → Sooner s (record { ticket = t; mill = b }) → Sooner s (record { ticket = t'; mill = b' }))
      → ((s : Step) → edge v s → Sooner s (record { ticket = t'; mill = b' }) → Sooner s (record { ticket = t; mill = b }))
      → Searched edge start queue path h t' b'
  advance t' b' up none =
      move h t' b'
      (λ y s i may. ⊎_elim (λ (l : index_in y queue < h). inl l) (λ (p : (index_in y queue ≡ h) × Sooner s (record { ticket = t; mill = b })). inr (p.0, up s p.1)))
      (λ y s i may. ⊎_elim
      (λ (l : index_in y queue < h). inl l)
      (λ (p : (index_in y queue ≡ h) × Sooner s (record { ticket = t'; mill = b' })). inr (p.0, none s (subst (λ k. edge k s) (v_only y i p.0) may) p.1)))

  -- no step of v leads by t to the mill b
  pub mill-none : (edge v (record { ticket = t; mill = b }) → ⊥) → Searched edge start queue path h t (b + 1)
  mill-none none =
      advance t (b + 1) (λ s. sooner_more t b s)
      (λ s may k.
      ⊎_elim
      (λ (was : Sooner s (record { ticket = t; mill = b })). was)
      (λ (e : s ≡ record { ticket = t; mill = b }). absurd (none (subst (edge v) e may)))
      (sooner_one t b s k))

  -- the mill b is found already
  pub mill_known : In b queue → Searched edge start queue path h t (b + 1)
  mill_known known = record {
    found = look_known S.found (looked_at h t (b + 1) queue)
        (λ y r i may seen. (past_decides h t (b + 1) _ r).1 (past_more h t b _ r ((past_decides h t b _ r).0 seen)))
        v (record { ticket = t; mill = b }) node_in unseen_here
        (λ y r i may seen.
        ⊎_elim
        (λ (was : Past h t b (index_in y queue) r). inl ((past_decides h t b _ r).1 was))
        (λ (one : (index_in y queue ≡ h) × (r ≡ record { ticket = t; mill = b })). inr (v_only y i one.0, one.1))
        (past_one h t b (index_in y queue) r ((past_decides h t (b + 1) _ r).0 seen)))
        known;
  }

  -- the mill b is new: it comes to the end of the queue, with the walk of v and one step more
  module _ (may : edge v (record { ticket = t; mill = b })) (new : In b queue → ⊥) where
    abbrev longer : List ℕ
    longer = queue ++ (b ∷ [])

    past_same : (y : ℕ) (r : Step) → In y queue → looked_at h t (b + 1) longer y r ≡ looked_at h t (b + 1) queue y r
    past_same y r i = ap (λ k. past h t (b + 1) k r) (index_left y queue (b ∷ []) i)

    next : (y : ℕ) (r : Step) → In y queue → looked_at h t (b + 1) longer y r ≡ false → Before (record { ticket = t; mill = b } ∷ path v) (r ∷ path y)
    next y r i unseen =
        ⊎_elim
        (λ (one : (y ≡ v) × ((r ≡ record { ticket = t; mill = b + 1 }) ⊎ Sooner (record { ticket = t; mill = b + 1 }) r)).
        subst (λ k. Before (record { ticket = t; mill = b } ∷ path v) (r ∷ path k)) (sym one.0)
        (sooner_cons (record { ticket = t; mill = b }) r (path v)
        (⊎_elim
        (λ (e : r ≡ record { ticket = t; mill = b + 1 }). subst (Sooner (record { ticket = t; mill = b })) (sym e) (inr (refl, omega arith)))
        (⊎_elim (λ (k : t < r.ticket). inl k) (λ (k : (t ≡ r.ticket) × (b + 1 < r.mill)). inr (k.0, omega arith)))
        one.1)))
        (λ (later : Before (path v) (path y)). before_cons (record { ticket = t; mill = b }) r (path v) (path y) later)
        (coming (b + 1) y r i (not_from_Decides _ (past_decides h t (b + 1) (index_in y queue) r) (sym (past_same y r i) ∙ unseen)))

    pub mill_new : Searched edge start (queue ++ (b ∷ [])) (updated path b (record { ticket = t; mill = b } ∷ path v)) h t (b + 1)
    mill_new = record {
      found = look_new S.found (looked_at h t (b + 1) longer)
          (λ y r i able seen. past_same y r i ∙ (past_decides h t (b + 1) _ r).1 (past_more h t b _ r ((past_decides h t b _ r).0 seen)))
          v (record { ticket = t; mill = b }) node_in unseen_here
          (λ y r i able seen.
          ⊎_elim
          (λ (was : Past h t b (index_in y queue) r). inl ((past_decides h t b _ r).1 was))
          (λ (one : (index_in y queue ≡ h) × (r ≡ record { ticket = t; mill = b })). inr (v_only y i one.0, one.1))
          (past_one h t b (index_in y queue) r ((past_decides h t (b + 1) _ r).0 (sym (past_same y r i) ∙ seen))))
          may new
          (λ y r i able unseen. next y r i unseen)
          (λ r able. unseen_since h t (b + 1) (index_in b longer) r (λ p. omega (arith, index_last b queue new)));
    }

  -- the walk to the mill b is the first to a node that is not found
  pub mill_first : (p : List Step) (z : ℕ) → Walk edge start p z → (In z queue → ⊥) → NotAfter (record { ticket = t; mill = b } ∷ path v) p
  mill_first =
      first_new S.found v (record { ticket = t; mill = b })
      (λ y r i able unseen.
      ⊎_elim
      (λ (one : (y ≡ v) × ((r ≡ record { ticket = t; mill = b }) ⊎ Sooner (record { ticket = t; mill = b }) r)).
      subst (λ k. NotAfter (record { ticket = t; mill = b } ∷ path v) (r ∷ path k)) (sym one.0)
      (⊎_elim
      (λ (e : r ≡ record { ticket = t; mill = b }). inl (ap (λ q. q ∷ path v) (sym e)))
      (λ (k : Sooner (record { ticket = t; mill = b }) r). inr (sooner_cons (record { ticket = t; mill = b }) r (path v) k))
      one.1))
      (λ (later : Before (path v) (path y)). inr (before_cons (record { ticket = t; mill = b }) r (path v) (path y) later))
      (coming b y r i (not_from_Decides _ (past_decides h t b (index_in y queue) r) unseen)))

  -- by the ticket t, v leads to no mill from b on
  pub next_ticket : ((s : Step) → edge v s → s.ticket ≡ t → s.mill < b) → Searched edge start queue path h (t + 1) 0
  next_ticket below =
      advance (t + 1) 0 (λ s k. inl (omega arith))
      (λ s may k.
      ⊎_elim
      (λ (e : s.ticket ≡ t). inr (e, below s may e))
      (λ (ne : s.ticket ≡ t → ⊥). inl (omega arith))
      (cases_eq s.ticket t))

  -- by the ticket t, v leads to no mill
  pub skip_ticket : ((m : ℕ) → edge v (record { ticket = t; mill = m }) → ⊥) → Searched edge start queue path h (t + 1) 0
  skip_ticket none = next_ticket (λ s may e. absurd (none s.mill (subst (edge v) (same_step s (record { ticket = t; mill = s.mill }) e refl) may)))

  -- all steps of v are past
  pub node_done : ((s : Step) → edge v s → Sooner s (record { ticket = t; mill = b })) → Searched edge start queue path (h + 1) 0 0
  node_done all =
      move (h + 1) 0 0 (λ y s i may p. inl (omega arith))
      (λ y s i may p.
      ⊎_elim
      (λ (e : index_in y queue ≡ h). inr (e, all s (subst (λ k. edge k s) (v_only y i e) may)))
      (λ (ne : index_in y queue ≡ h → ⊥). inl (omega arith))
      (cases_eq (index_in y queue) h))

  -- v has no step by a ticket from t on
  pub next_node : ((s : Step) → edge v s → s.ticket < t) → Searched edge start queue path (h + 1) 0 0
  next_node below = node_done (λ s may. inl (below s may))

-- the search stands at the node v in place h of the queue, and at a ticket by which v leads to no mill but m
module _ {edge : Edges} {start : ℕ} {queue : List ℕ} {path : ℕ → List Step} {h t : ℕ} (S : Searched edge start queue path h t 0)
    (v : ℕ) (low : h < length queue) (at : get_or queue h 0 ≡ v) (m : ℕ) (only : (s : Step) → edge v s → s.ticket ≡ t → s.mill ≡ m) where
  to_mill : Searched edge start queue path h t m
  to_mill =
      advance S v low at t m
      (λ s. ⊎_elim (λ (k : s.ticket < t). inl k) (λ (k : (s.ticket ≡ t) × (s.mill < 0)). absurd (omega arith)))
      (λ s may. ⊎_elim (λ (k : s.ticket < t). inl k) (λ (k : (s.ticket ≡ t) × (s.mill < m)). absurd (omega (arith, only s may k.0))))

  pub only_known : In m queue → Searched edge start queue path h (t + 1) 0
  only_known known = next_ticket (mill_known to_mill v low at known) v low at (λ s may e. omega (arith, only s may e))

  pub only_new : edge v (record { ticket = t; mill = m }) → (In m queue → ⊥) → Searched edge start (queue ++ (m ∷ [])) (updated path m (record { ticket = t; mill = m } ∷ path v)) h (t + 1) 0
  only_new may new =
      next_ticket (mill_new to_mill v low at may new) v (omega (arith, length-append queue (m ∷ []))) (get_or_append_left queue (m ∷ []) 0 h low ∙ at)
      (λ s able e. omega (arith, only s able e))

-- where every step leads to a node that is found already, the rest of the queue adds nothing
pub search_rest : {edge : Edges} {start : ℕ} {queue : List ℕ} {path : ℕ → List Step} {h t b : ℕ} → Searched edge start queue path h t b
    → ((y : ℕ) (s : Step) → In y queue → edge y s → In s.mill queue) → Searched edge start queue path (length queue) 0 0
search_rest {queue = queue} S known = record {
  found = look_rest S.found (looked_at (length queue) 0 0 queue)
      (λ y s i may seen. (past_decides (length queue) 0 0 _ s).1 (inl (index_below y queue i)))
      known;
}

-- at the end of the queue all steps are past
module _ {edge : Edges} {start : ℕ} {queue : List ℕ} {path : ℕ → List Step} {h t b : ℕ} (S : Searched edge start queue path h t b) (end : length queue ≤ h) where
  pub all_looked : (x : ℕ) (s : Step) → In x queue → edge x s → looked_at h t b queue x s ≡ true
  all_looked x s i may = (past_decides h t b (index_in x queue) s).1 (inl (omega (arith, index_below x queue i)))

  pub search_end : (p : List Step) (z : ℕ) → Walk edge start p z → In z queue × NotAfter (path z) p
  search_end = complete S.found all_looked
