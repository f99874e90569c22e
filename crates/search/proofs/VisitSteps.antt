-- The turns of a visit: one new mill more is reached, and either it is empty or the visit goes on.
use Rattle.std.proofs.Common.{◌≡◌, ℕ, ◌+◌, ◌<◌, Bool, true, false, not, ◌||◌, ltb, List, [], ◌∷◌, ◌++◌, Option, sym, refl, ap, ◌∙◌, subst, ap₂, ⊎_elim}
use Rattle.std.proofs.lemmas.List.{append-nil, append_assoc}
use Rattle.std.proofs.lemmas.Bool.{cases_eq, and_parts, and_from, not-true, both_ways, lt-ltb}
use Rattle.sets.specs.Sets.{has, members, member, numbers, remaining}
use Rattle.sets.specs.declared.number_set.Members.{Members}
use Rattle.sets.specs.declared.number_set.NumberSet.{NumberSet}
use Rattle.sets.proofs.Members.{members_end, turn_has, turn_so_far}
use Rattle.sets.proofs.Rising.{numbers_same, member-append, member-numbers}
use Rattle.semimatching.proofs.Carrying.{In}
use Rattle.semimatching.proofs.Places.{in_push}
use Rattle.search.specs.declared.link.Link.{Link}
use Rattle.search.specs.declared.trail.Trail.{Trail}
use Rattle.search.specs.Trails.{queue_of, link_of}
use Rattle.search.specs.Visits.{fresh, Busy, Visited, Stopped}
use Rattle.search.proofs.ForwardVisits.{is_member, numbers-below, numbers_with}

-- the mills xs were reached by one link
pub record Reached (link : Option Link) (before after : Trail) (xs : List ℕ) : Type 0 where
  pub queue : queue_of after ≡ queue_of before ++ xs
  pub linked : (m : ℕ) → In m xs → link_of after m ≡ link
  pub kept : (m : ℕ) → has before.reached m ≡ true → link_of after m ≡ link_of before m

pub reached_none : (link : Option Link) (trail : Trail) → Reached link trail trail []
reached_none link trail = record { queue = sym (append-nil (queue_of trail)); linked = λ m i. absurd i; kept = λ m r. refl }

-- one mill more, which was not reached
module _ (link : Option Link) (before here : Trail) (xs : List ℕ) (R : Reached link before here xs) (mill : ℕ) (below : mill < 64)
    (new : has before.reached mill ≡ false) (later : In mill xs → ⊥) where
  pub not_reached : has here.reached mill ≡ false
  not_reached =
      not_in_both (member mill (queue_of before)) (member mill xs) (sym (before.known mill) ∙ new) (out (member mill xs) (is_member mill xs).0)
      (here.known mill ∙ ap (member mill) R.queue ∙ member-append mill (queue_of before) xs)
    where
      out : (b : Bool) → (b ≡ true → In mill xs) → b ≡ false
      out true is = absurd (later (is refl))
      out false is = refl

      not_in_both : (a b : Bool) {c : Bool} → a ≡ false → b ≡ false → c ≡ (a || b) → c ≡ false
      not_in_both a b p q e = e ∙ ap₂ ◌||◌ p q

  module _ (after : Trail) (queue : queue_of after ≡ queue_of here ++ (mill ∷ [])) (linked : link_of after mill ≡ link)
      (others : (m : ℕ) → (m ≡ mill → ⊥) → link_of after m ≡ link_of here m) where
    reach_more : Reached link before after (xs ++ (mill ∷ []))
    reach_more = record {
      queue = queue ∙ ap (λ q. q ++ (mill ∷ [])) R.queue ∙ append_assoc (queue_of before) xs (mill ∷ []);
      linked = λ m i.
          ⊎_elim
          (λ (e : m ≡ mill). ap (link_of after) e ∙ linked)
          (λ (ne : m ≡ mill → ⊥). others m ne ∙ R.linked m (⊎_elim (λ (j : In m xs). j) (λ (e : m ≡ mill). absurd (ne e)) (in_push m xs mill i)))
          (cases_eq m mill);
      kept = λ m r. others m (λ e. both_ways (has before.reached m) (ap (has before.reached) e ∙ new) r) ∙ R.kept m r;
    }

-- ---- a visit to the mills of a set

-- what was reached is all that is new below a bound
visited : (link : Option Link) (before after : Trail) (new : ℕ → Bool) (bound : ℕ) (xs : List ℕ) → xs ≡ numbers new bound → Reached link before after xs → Visited new link bound before after
visited link before after new bound xs is R = record {
  queue = R.queue ∙ ap (λ l. queue_of before ++ l) is;
  linked = λ m low y. R.linked m ((is_member m xs).0 (ap (member m) is ∙ member-numbers new m bound ∙ and_from (ltb m bound) (new m) (lt-ltb m bound low) y));
  kept = R.kept;
}

-- the mills that have come are busy
abbrev pub Laden : (ℕ → ℕ) → List ℕ → Type 0
Laden load xs = (m : ℕ) → In m xs → 0 < load m

busy_below : (load : ℕ → ℕ) (new : ℕ → Bool) (bound : ℕ) (xs : List ℕ) → xs ≡ numbers new bound → Laden load xs → Busy load new bound
busy_below load new bound xs is laden m low y = laden m ((is_member m xs).0 (ap (member m) is ∙ member-numbers new m bound ∙ and_from (ltb m bound) (new m) (lt-ltb m bound low) y))

pub laden_more : (load : ℕ → ℕ) (xs : List ℕ) (mill : ℕ) → Laden load xs → 0 < load mill → Laden load (xs ++ (mill ∷ []))
laden_more load xs mill laden some m i = ⊎_elim (λ (j : In m xs). laden m j) (λ (e : m ≡ mill). subst (λ k. 0 < load k) (sym e) some) (in_push m xs mill i)

-- a turn: `left` has the mills that `before` has not reached, xs have come, and the next is `mill`
pub record Turn (mills : NumberSet) (before : Trail) (xs : List ℕ) (mill : ℕ) : Type 0 where
  pub left : NumberSet
  pub here : Members
  pub rest : Members
  pub differs : (k : ℕ) → has left k ≡ fresh mills before k
  pub split : members left ≡ xs ++ remaining here
  pub next : remaining here ≡ mill ∷ remaining rest

module _ (mills : NumberSet) (before : Trail) {xs : List ℕ} {mill : ℕ} (T : Turn mills before xs mill) where
  pub turn_below : mill < 64
  turn_below = (turn_has T.left xs T.here T.split mill T.rest T.next).0

  turn_fresh : fresh mills before mill ≡ true
  turn_fresh = sym (T.differs mill) ∙ (turn_has T.left xs T.here T.split mill T.rest T.next).1

  turn_new : has before.reached mill ≡ false
  turn_new = not-true (has before.reached mill) (and_parts (has mills mill) (not (has before.reached mill)) turn_fresh).1

  turn_come : xs ≡ numbers (fresh mills before) mill
  turn_come = turn_so_far T.left xs T.here T.split mill T.rest T.next ∙ numbers_same (has T.left) (fresh mills before) mill (λ k low. T.differs k)

  turn_later : In mill xs → ⊥
  turn_later i = numbers-below (fresh mills before) mill (subst (In mill) turn_come i)

  module _ (link : Option Link) (trail : Trail) (R : Reached link before trail xs) where
    pub turn_unreached : has trail.reached mill ≡ false
    turn_unreached = not_reached link before trail xs R mill turn_below turn_new turn_later

    pub turn_more : (after : Trail) → queue_of after ≡ queue_of trail ++ (mill ∷ []) → link_of after mill ≡ link
        → ((m : ℕ) → (m ≡ mill → ⊥) → link_of after m ≡ link_of trail m) → Reached link before after (xs ++ (mill ∷ []))
    turn_more = reach_more link before trail xs R mill turn_below turn_new turn_later

  pub turn_stopped : (load : ℕ → ℕ) (link : Option Link) (after : Trail) → Reached link before after (xs ++ (mill ∷ [])) → Laden load xs → load mill ≡ 0
      → Stopped load (fresh mills before) link before after
  turn_stopped load link after R laden empty = record {
    mill = mill;
    below = turn_below;
    anew = turn_fresh;
    empty = empty;
    busy = busy_below load (fresh mills before) mill xs turn_come laden;
    visited = visited link before after (fresh mills before) (mill + 1) (xs ++ (mill ∷ []))
        (ap (λ l. l ++ (mill ∷ [])) turn_come ∙ sym (numbers_with (fresh mills before) mill turn_fresh)) R;
  }

-- the end: all of them have come
module _ (mills : NumberSet) (before : Trail) (left : NumberSet) (differs : (k : ℕ) → has left k ≡ fresh mills before k)
    (xs : List ℕ) (here : Members) (split : members left ≡ xs ++ remaining here) (end : remaining here ≡ []) where
  all_come : xs ≡ numbers (fresh mills before) 64
  all_come = members_end left xs here split end ∙ numbers_same (has left) (fresh mills before) 64 (λ k low. differs k)

  pub visit_all : (link : Option Link) (after : Trail) → Reached link before after xs → Visited (fresh mills before) link 64 before after
  visit_all link after = visited link before after (fresh mills before) 64 xs all_come

  pub visit_busy : (load : ℕ → ℕ) → Laden load xs → Busy load (fresh mills before) 64
  visit_busy load = busy_below load (fresh mills before) 64 xs all_come
