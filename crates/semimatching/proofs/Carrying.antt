-- What carrying out a chain does: to where each ticket stands, and to the load of each mill.
use Rattle.std.proofs.Common.{◌≡◌, ℕ, suc, ◌+◌, ◌<◌, ◌≤◌, Bool, true, false, cond, not, eqb, ◌⊎◌, List, [], ◌∷◌, length, is_some, Some, None, Option, sym, refl, ap, ◌∙◌, subst, subst₂, inl, inr, ⊎_elim, arith}
use Rattle.std.proofs.lemmas.Bool.{cases_eq, cond-true, cond-false, eq-eqb, ne_eqb}
use Rattle.std.proofs.lemmas.Bool.Decides.{nat_tests}
use Rattle.semimatching.specs.Placements.{Shop, Placement, load, SemiMatching, SameTickets}
use Rattle.semimatching.specs.Sums.{count_to}
use Rattle.semimatching.specs.Chains.{Step, Linked, mills_on, NotIn, Distinct, Chain, moved, carried}
use Rattle.semimatching.proofs.Sums.{sum_same, sum-zero, sum_change, count_le}
use Rattle.semimatching.proofs.Loads.{share, load-put, load_placed}

-- a number of a list
abbrev pub In : ℕ → List ℕ → Type 0
In x [] = ⊥
In x (y ∷ ys) = (x ≡ y) ⊎ In x ys

pub in_start : (v : ℕ) (steps : List Step) → In v (mills_on v steps)
in_start v [] = inl refl
in_start v (s ∷ ss) = inl refl

pub in_apart : (x y : ℕ) (xs : List ℕ) → NotIn y xs → In x xs → x ≡ y → ⊥
in_apart x y [] apart i e = i
in_apart x y (z ∷ zs) apart i e = ⊎_elim (λ (here : x ≡ z). apart.0 (sym e ∙ here)) (λ (later : In x zs). in_apart x y zs apart.1 later e) i

pub moved_here : (at : Placement) (s : Step) (t : ℕ) → t ≡ s.ticket → moved at s t ≡ Some s.mill
moved_here at s t here = cond-true _ _ _ (eq-eqb t s.ticket here)

pub moved_other : (at : Placement) (s : Step) (t : ℕ) → (t ≡ s.ticket → ⊥) → moved at s t ≡ at t
moved_other at s t other = cond-false _ _ _ (ne_eqb t s.ticket other)

-- what stands on the mills of a chain is all that the chain asks of a placement
pub linked_same : (shop : Shop) (at other : Placement) (v : ℕ) (steps : List Step) (w : ℕ)
    → ((t m : ℕ) → In m (mills_on v steps) → at t ≡ Some m → other t ≡ Some m)
    → Linked shop at v steps w → Linked shop other v steps w
linked_same shop at other v [] w same l = l
linked_same shop at other v (s ∷ ss) w same l =
    (l.0, same s.ticket v (inl refl) l.1, l.2, l.3, linked_same shop at other s.mill ss w (λ t m i. same t m (inr i)) l.4)

-- the rest of a chain is a chain when its first ticket has moved
pub chain_rest : (shop : Shop) (at : Placement) (v : ℕ) (s : Step) (ss : List Step) (w : ℕ)
    → Chain shop at v (s ∷ ss) w → Chain shop (moved at s) s.mill ss w
chain_rest shop at v s ss w c = record {
  start = c.linked.2;
  linked = linked_same shop at (moved at s) s.mill ss w
      (λ t m i stands. moved_other at s t (λ e. let from = c.linked.1 in in_apart m v _ c.once.0 i (cc)) ∙ stands) c.linked.4;
  once = c.once.1;
}

-- what each step keeps, the chain keeps from its first mill to each of its mills, and from there to its last
pub along : (shop : Shop) (at : Placement) (R : ℕ → ℕ → Type 0) → ((a : ℕ) → R a a) → ((a b c : ℕ) → R a b → R b c → R a c)
    → ((t a b : ℕ) → t < shop.tickets → at t ≡ Some a → b < shop.mills → shop.can t b ≡ true → R a b)
    → (v : ℕ) (steps : List Step) (w : ℕ) → Linked shop at v steps w → (x : ℕ) → In x (mills_on v steps) → R v x × R x w
along shop at R same then step v [] w l x i =
    ⊎_elim (λ (e : x ≡ v). (subst (R v) (sym e) (same v), subst₂ R (sym e) l (same v))) (λ i. absurd i) i
along shop at R same then step v (s ∷ ss) w l x i =
    let one = step s.ticket v s.mill l.0 l.1 l.2 l.3 in
    let rest : (y : ℕ) → In y (mills_on s.mill ss) → R s.mill y × R y w = along shop at R same then step s.mill ss w l.4 in
    ⊎_elim
    (λ (e : x ≡ v). (subst (R v) (sym e) (same v), subst (λ y. R y w) (sym e) (then v s.mill w one (rest s.mill (in_start s.mill ss)).1)))
    (λ (later : In x (mills_on s.mill ss)). (then v s.mill x one (rest x later).0, (rest x later).1))
    i

pub chain_mills : (shop : Shop) (at : Placement) (v : ℕ) (steps : List Step) (w : ℕ) → Chain shop at v steps w → (m : ℕ) → In m (mills_on v steps) → m < shop.mills
chain_mills shop at v [] w c m i = ⊎_elim (λ (e : m ≡ v). omega arith) (λ i. absurd i) i
chain_mills shop at v (s ∷ ss) w c m i =
    ⊎_elim (λ (e : m ≡ v). omega arith) (λ (later : In m (mills_on s.mill ss)). chain_mills shop (moved at s) s.mill ss w (chain_rest shop at v s ss w c) m later) i

pub in_end : (shop : Shop) (at : Placement) (v : ℕ) (steps : List Step) (w : ℕ) → Linked shop at v steps w → In w (mills_on v steps)
in_end shop at v [] w l = inl (sym l)
in_end shop at v (s ∷ ss) w l = inr (in_end shop at s.mill ss w l.4)

pub chain_end : (shop : Shop) (at : Placement) (v : ℕ) (steps : List Step) (w : ℕ) → Chain shop at v steps w → w < shop.mills
chain_end shop at v steps w c = chain_mills shop at v steps w c w (in_end shop at v steps w c.linked)

-- a chain that comes back to its start has no steps
pub chain_apart : (shop : Shop) (at : Placement) (v : ℕ) (s : Step) (ss : List Step) (w : ℕ) → Chain shop at v (s ∷ ss) w → v ≡ w → ⊥
chain_apart shop at v s ss w c e = in_apart w v _ c.once.0 (in_end shop at s.mill ss w c.linked.4) (sym e)

turned : (a m : ℕ) → share (Some a) m ≡ cond (eqb m a) 1 0
turned a m = grind (arith, nat_tests)

-- one ticket less on the first mill, one more on the last
pub carried_loads : (shop : Shop) (at : Placement) (v : ℕ) (steps : List Step) (w : ℕ) → Chain shop at v steps w
    → (m : ℕ) → load shop (carried at steps) m + cond (eqb m v) 1 0 ≡ load shop at m + cond (eqb m w) 1 0
carried_loads shop at v [] w c m = ap (λ x. load shop at m + cond (eqb m x) 1 0) c.linked
carried_loads shop at v (s ∷ ss) w c m =
    let rest = carried_loads shop (moved at s) s.mill ss w (chain_rest shop at v s ss w c) m in
    let first = load-put shop at s.ticket (Some s.mill) c.linked.0 m in
    let from = ap (λ o. share o m) c.linked.1 in
    omega (arith, turned v m, turned s.mill m)

module _ (shop : Shop) (at : Placement) (v : ℕ) (steps : List Step) (w : ℕ) (c : Chain shop at v steps w) where
  pub carried_first : (v ≡ w → ⊥) → load shop (carried at steps) v + 1 ≡ load shop at v
  carried_first apart = let all = carried_loads shop at v steps w c v in grind (arith, nat_tests)

  pub carried_last : (v ≡ w → ⊥) → load shop (carried at steps) w ≡ load shop at w + 1
  carried_last apart = let all = carried_loads shop at v steps w c w in grind (arith, nat_tests)

  pub carried_other : (m : ℕ) → (m ≡ v → ⊥) → (m ≡ w → ⊥) → load shop (carried at steps) m ≡ load shop at m
  carried_other m not_v not_w = let all = carried_loads shop at v steps w c m in grind (arith, nat_tests)

moved_semi : (shop : Shop) (at : Placement) (s : Step) → SemiMatching shop at → s.mill < shop.mills → shop.can s.ticket s.mill ≡ true → SemiMatching shop (moved at s)
moved_semi shop at s semi low can t m h stands =
    ⊎_elim
    (λ (here : t ≡ s.ticket).
    let is = moved_here at s t here in
    let same : s.mill ≡ m = cc in
    (omega arith, cc))
    (λ (other : t ≡ s.ticket → ⊥). semi t m h (sym (moved_other at s t other) ∙ stands))
    (cases_eq t s.ticket)

pub carried_semi : (shop : Shop) (at : Placement) (v : ℕ) (steps : List Step) (w : ℕ) → SemiMatching shop at → Chain shop at v steps w → SemiMatching shop (carried at steps)
carried_semi shop at v [] w semi c = semi
carried_semi shop at v (s ∷ ss) w semi c =
    carried_semi shop (moved at s) s.mill ss w (moved_semi shop at s semi c.linked.2 c.linked.3) (chain_rest shop at v s ss w c)

pub carried_same : (shop : Shop) (at : Placement) (v : ℕ) (steps : List Step) (w : ℕ) → Chain shop at v steps w → SameTickets shop at (carried at steps)
carried_same shop at v [] w c t h = refl
carried_same shop at v (s ∷ ss) w c t h =
    let rest = carried_same shop (moved at s) s.mill ss w (chain_rest shop at v s ss w c) t h in
    let from = c.linked.1 in
    ⊎_elim (λ (here : t ≡ s.ticket). cc (moved_here at s t here)) (λ (other : t ≡ s.ticket → ⊥). ap is_some (sym (moved_other at s t other)) ∙ rest) (cases_eq t s.ticket)

-- a ticket that goes from one of these mills to another
pub record Shifted (shop : Shop) (at after : Placement) (mills : List ℕ) (t : ℕ) : Type 0 where
  pub from : ℕ
  pub to : ℕ
  pub was : at t ≡ Some from
  pub is : after t ≡ Some to
  pub from_on : In from mills
  pub to_on : In to mills
  pub may : shop.can t to ≡ true

pub carried_where : (shop : Shop) (at : Placement) (v : ℕ) (steps : List Step) (w : ℕ) → Chain shop at v steps w
    → (t : ℕ) → (carried at steps t ≡ at t) ⊎ Shifted shop at (carried at steps) (mills_on v steps) t
carried_where shop at v [] w c t = inl refl
carried_where shop at v (s ∷ ss) w c t =
    let rest = carried_where shop (moved at s) s.mill ss w (chain_rest shop at v s ss w c) t in
    ⊎_elim
    (λ (here : t ≡ s.ticket).
    let stood : at t ≡ Some v = ap at here ∙ c.linked.1 in
    ⊎_elim
    (λ (stays : carried (moved at s) ss t ≡ moved at s t). inr (record {
      from = v;
      to = s.mill;
      was = stood;
      is = stays ∙ moved_here at s t here;
      from_on = inl refl;
      to_on = inr (in_start s.mill ss);
      may = ap (λ k. shop.can k s.mill) here ∙ c.linked.3;
    }))
    (λ (g : Shifted shop (moved at s) (carried (moved at s) ss) (mills_on s.mill ss) t). inr (record {
      from = v;
      to = g.to;
      was = stood;
      is = g.is;
      from_on = inl refl;
      to_on = inr g.to_on;
      may = g.may;
    }))
    rest)
    (λ (other : t ≡ s.ticket → ⊥).
    ⊎_elim
    (λ (stays : carried (moved at s) ss t ≡ moved at s t). inl (stays ∙ moved_other at s t other))
    (λ (g : Shifted shop (moved at s) (carried (moved at s) ss) (mills_on s.mill ss) t). inr (record {
      from = g.from;
      to = g.to;
      was = sym (moved_other at s t other) ∙ g.was;
      is = g.is;
      from_on = inr g.from_on;
      to_on = inr g.to_on;
      may = g.may;
    }))
    rest)
    (cases_eq t s.ticket)

-- a ticket that stands on none of the chain's mills stays
pub carried_off : (shop : Shop) (base : Placement) (v : ℕ) (steps : List Step) (w t : ℕ) → Linked shop base v steps w
    → ((m : ℕ) → In m (mills_on v steps) → base t ≡ Some m → ⊥) → (at : Placement) → carried at steps t ≡ at t
carried_off shop base v [] w t l off at = refl
carried_off shop base v (s ∷ ss) w t l off at =
    carried_off shop base s.mill ss w t l.4 (λ m i. off m (inr i)) (moved at s)
    ∙ moved_other at s t (λ e. off v (inl refl) (ap base e ∙ l.1))

-- two places on different mills
abbrev pub differ : Option ℕ → Option ℕ → Bool
differ None o = false
differ (Some a) None = false
differ (Some a) (Some b) = not (eqb a b)

-- 1 for a ticket that has moved
abbrev shifts : Option ℕ → Option ℕ → ℕ
shifts o p = cond (differ o p) 1 0

shifts_none : (o : Option ℕ) → shifts o o ≡ 0
shifts_none None = refl
shifts_none (Some a) = grind (arith, nat_tests)

-- each step moves one ticket
pub carried-count : (shop : Shop) (at : Placement) (v : ℕ) (steps : List Step) (w : ℕ) → Chain shop at v steps w
    → count_to shop.tickets (λ t. differ (at t) (carried at steps t)) ≡ length steps
carried-count shop at v [] w c = sum_same shop.tickets (λ t. shifts (at t) (at t)) (λ t. 0) (λ t h. shifts_none (at t)) ∙ sum-zero shop.tickets
carried-count shop at v (s ∷ ss) w c =
    let rest = carried-count shop (moved at s) s.mill ss w (chain_rest shop at v s ss w c) in
    let after = carried (moved at s) ss in
    let stands = c.linked.1 in
    let stays : moved at s s.ticket ≡ Some s.mill = moved_here at s s.ticket refl in
    let off = carried_off shop at s.mill ss w s.ticket c.linked.4 (λ m i on. in_apart m v _ c.once.0 i (cc)) (moved at s) in
    let arrives : after s.ticket ≡ Some s.mill = off ∙ stays in
    let away = ne_eqb v s.mill (λ e. in_apart s.mill v _ c.once.0 (in_start s.mill ss) (sym e)) in
    let others : (t : ℕ) → (t ≡ s.ticket → ⊥) → shifts (at t) (after t) ≡ shifts (moved at s t) (after t) = λ t ne. ap (λ o. shifts o (after t)) (sym (moved_other at s t ne)) in
    let change = sum_change shop.tickets (λ t. shifts (moved at s t) (after t)) (λ t. shifts (at t) (after t)) s.ticket c.linked.0 (λ t h. others t) in
    let none : shifts (moved at s s.ticket) (after s.ticket) ≡ 0 = cc (shifts_none (Some s.mill)) in
    let one : shifts (at s.ticket) (after s.ticket) ≡ 1 = cc in
    omega arith

-- distinct numbers below a bound that pass a test are no more than there are
pub distinct_few : (n : ℕ) (xs : List ℕ) (test : ℕ → Bool) → Distinct xs → ((x : ℕ) → In x xs → (x < n) × (test x ≡ true)) → length xs ≤ count_to n test
distinct_few n [] test d all = omega arith
distinct_few n (x ∷ xs) test d all =
    let others : ℕ → Bool = λ k. cond (eqb k x) false (test k) in
    let rest = distinct_few n xs others d.1 (λ y i. ((all y (inr i)).0, cond-false _ _ _ (ne_eqb y x (in_apart y x xs d.0 i)) ∙ (all y (inr i)).1)) in
    let change = sum_change n (λ k. cond (test k) 1 0) (λ k. cond (others k) 1 0) x (all x (inl refl)).0 (λ k h ne. ap (λ b. cond b 1 0) (cond-false _ _ _ (ne_eqb k x ne))) in
    let here : ◌≡◌ {A = ℕ} (cond (test x) 1 0) 1 = ap (λ b. cond b 1 0) (all x (inl refl)).1 in
    let gone : ◌≡◌ {A = ℕ} (cond (others x) 1 0) 0 = ap (λ b. cond b 1 0) (cond-true (eqb x x) false (test x) (eq-eqb x x refl)) in
    omega arith

mills_on-length : (v : ℕ) (steps : List Step) → length (mills_on v steps) ≡ suc (length steps)
mills_on-length v [] = refl
mills_on-length v (s ∷ ss) = ap suc (mills_on-length s.mill ss)

-- a chain has fewer steps than there are mills like those on it
pub chain_few : (shop : Shop) (at : Placement) (v : ℕ) (steps : List Step) (w : ℕ) → Chain shop at v steps w
    → (in_service : ℕ → Bool) → ((m : ℕ) → In m (mills_on v steps) → in_service m ≡ true) → length steps < count_to shop.mills in_service
chain_few shop at v steps w c in_service all =
    omega (arith, mills_on-length v steps, distinct_few shop.mills (mills_on v steps) in_service c.once (λ m i. (chain_mills shop at v steps w c m i, all m i)))

pub chain_short : (shop : Shop) (at : Placement) (v : ℕ) (steps : List Step) (w : ℕ) → Chain shop at v steps w → length steps < shop.mills
chain_short shop at v steps w c = omega (arith, chain_few shop at v steps w c (λ m. true) (λ m i. refl), count_le shop.mills (λ m. true))

-- the placement when a new ticket has come to the first mill of a chain that is carried out
abbrev pub placed : Placement → ℕ → ℕ → List Step → Placement
placed at n f steps = carried (moved at (record { ticket = n; mill = f })) steps

module _ (shop : Shop) (at : Placement) (n f : ℕ) (steps : List Step) (w : ℕ) (new : at n ≡ None) (c : Chain shop at f steps w) where
  abbrev first : Step
  first = record { ticket = n; mill = f }

  not_new : (t m : ℕ) → at t ≡ Some m → t ≡ n → ⊥
  not_new t m stands e = let z : ◌≡◌ {A = ℕ} 0 1 = cc in omega arith

  -- the new ticket is in no step
  pub placed_chain : Chain shop (moved at first) f steps w
  placed_chain = record {
    start = c.start;
    linked = linked_same shop at (moved at first) f steps w (λ t m i stands. moved_other at first t (not_new t m stands) ∙ stands) c.linked;
    once = c.once;
  }

  -- one ticket more on the last mill
  pub placed_loads : n < shop.tickets → (m : ℕ) → load shop (placed at n f steps) m ≡ load shop at m + cond (eqb m w) 1 0
  placed_loads h m = omega (arith, carried_loads shop (moved at first) f steps w placed_chain m, load_placed shop at n f h new m)

  pub placed_semi : SemiMatching shop at → shop.can n f ≡ true → SemiMatching shop (placed at n f steps)
  placed_semi semi can = carried_semi shop (moved at first) f steps w (moved_semi shop at first semi c.start can) placed_chain

  pub placed_new : placed at n f steps n ≡ Some f
  placed_new = carried_off shop at f steps w n c.linked (λ m i stands. not_new n m stands refl) (moved at first) ∙ moved_here at first n refl

  pub placed_same : (t : ℕ) → t < shop.tickets → (t ≡ n → ⊥) → is_some (at t) ≡ is_some (placed at n f steps t)
  placed_same t h other = ap is_some (sym (moved_other at first t other)) ∙ carried_same shop (moved at first) f steps w placed_chain t h

  pub placed_where : (t : ℕ) → (t ≡ n → ⊥) → (placed at n f steps t ≡ at t) ⊎ Shifted shop at (placed at n f steps) (mills_on f steps) t
  placed_where t other =
      let kept = moved_other at first t other in
      ⊎_elim
      (λ (stays : placed at n f steps t ≡ moved at first t). inl (stays ∙ kept))
      (λ (g : Shifted shop (moved at first) (placed at n f steps) (mills_on f steps) t). inr (record {
        from = g.from;
        to = g.to;
        was = sym kept ∙ g.was;
        is = g.is;
        from_on = g.from_on;
        to_on = g.to_on;
        may = g.may;
      }))
      (carried_where shop (moved at first) f steps w placed_chain t)

  pub placed_count : count_to shop.tickets (λ t. differ (at t) (placed at n f steps t)) ≡ length steps
  placed_count =
      let after = placed at n f steps in
      let arrives = placed_new in
      sum_same shop.tickets (λ t. shifts (at t) (after t)) (λ t. shifts (moved at first t) (after t))
      (λ t h.
      ⊎_elim
      (λ (here : t ≡ n). cc (moved_here at first t here, shifts_none (Some f)))
      (λ (other : t ≡ n → ⊥). ap (λ o. shifts o (after t)) (sym (moved_other at first t other)))
      (cases_eq t n))
      ∙ carried-count shop (moved at first) f steps w placed_chain
