-- A ticket of the dearest mill that leads to a mill with room, shifted along a chain, keeps the potential; and when no mill that leads there is dearer, the room is of no use.
use Rattle.std.proofs.Common.{◌≡◌, ℕ, zero, suc, ◌+◌, ◌<◌, ◌≤◌, min, Bool, true, cond, List, Some, sym, ap, ◌∙◌, subst, ⊎_elim, add-one, arith}
use Rattle.std.proofs.lemmas.Bool.{cases_eq, cond-true, cond_both}
use Rattle.semimatching.specs.Placements.{Shop, Placement, load}
use Rattle.semimatching.specs.Prices.{Prices, NeverFalls, last_price, next_price}
use Rattle.semimatching.specs.Chains.{Step, mills_on, Chain, carried}
use Rattle.semimatching.specs.Potentials.{Potential, None}
use Rattle.semimatching.proofs.Carrying.{In, in_start, in_end, Shifted, along, carried_first, carried_last, carried_other, carried_where}

-- lowered to at most p on R
abbrev pub lowered : (ℕ → Bool) → ℕ → (ℕ → ℕ) → ℕ → ℕ
lowered R p level m = cond (R m) (min (level m) p) (level m)

module _ (R : ℕ → Bool) (p : ℕ) (level : ℕ → ℕ) (m : ℕ) where
  lowered_below : lowered R p level m ≤ level m
  lowered_below = cond_both (R m) _ _ (λ x. x ≤ level m) (λ r. omega arith) (λ r. omega arith)

  lowered_in : R m ≡ true → lowered R p level m ≤ p
  lowered_in r = omega (arith, cond-true (R m) (min (level m) p) (level m) r)

  lowered_above : (q : ℕ) → q ≤ level m → (R m ≡ true → q ≤ p) → q ≤ lowered R p level m
  lowered_above q le lep = cond_both (R m) _ _ (λ x. q ≤ x) (λ r. omega (arith, lep r)) (λ r. omega arith)

pub last_next : (price : Prices) → NeverFalls price → (m l : ℕ) → last_price price m l ≤ next_price price m l
last_next price falls m zero = omega arith
last_next price falls m (suc l) = falls m (suc l) (omega arith)

module _ (shop : Shop) (price : Prices) (at : Placement) (r : ℕ) (P : Potential shop price at (λ m. m ≡ r))
    (R : ℕ → Bool) (has : R r ≡ true) (closed : (t a b : ℕ) → t < shop.tickets → at t ≡ Some a → b < shop.mills → shop.can t b ≡ true → R b ≡ true → R a ≡ true) where
  abbrev level : ℕ → ℕ
  level = P.level

  lowered_rises : (p t a b : ℕ) → t < shop.tickets → at t ≡ Some a → b < shop.mills → shop.can t b ≡ true → lowered R p level a ≤ lowered R p level b
  lowered_rises p t a b k stands low may =
      lowered_above R p level b _ (omega (arith, lowered_below R p level a, P.rises t a b k stands low may)) (λ rb. lowered_in R p level a (closed t a b k stands low may rb))

  -- no mill that leads to r is dearer than its next ticket
  pub finish : ((m : ℕ) → m < shop.mills → R m ≡ true → last_price price m (load shop at m) ≤ next_price price r (load shop at r)) → Potential shop price at None
  finish cheap =
      let p = next_price price r (load shop at r) in
      record {
        level = lowered R p level;
        last = λ m low. lowered_above R p level m _ (P.last m low) (cheap m low);
        next = λ m low free.
            ⊎_elim
            (λ (here : m ≡ r). omega (arith, lowered_in R p level m (ap R here ∙ has), ap (λ x. next_price price x (load shop at x)) here))
            (λ (other : m ≡ r → ⊥). omega (arith, lowered_below R p level m, P.next m low other))
            (cases_eq m r);
        rises = lowered_rises p;
      }

  module _ (falls : NeverFalls price) (x : ℕ) (steps : List Step) (c : Chain shop at x steps r)
      (gain : next_price price r (load shop at r) < last_price price x (load shop at x))
      (greatest : (m : ℕ) → m < shop.mills → R m ≡ true → last_price price m (load shop at m) ≤ last_price price x (load shop at x)) where
    abbrev p : ℕ
    p = last_price price x (load shop at x)

    abbrev after : Placement
    after = carried at steps

    apart : x ≡ r → ⊥
    apart e = omega (arith, ap (λ m. last_price price m (load shop at m)) e, last_next price falls r (load shop at r))

    -- the mills of the chain are in R, and their level is at least p
    chain_in : (y : ℕ) → In y (mills_on x steps) → R y ≡ true
    chain_in y i = (along shop at (λ a b. R b ≡ true → R a ≡ true) (λ a h. h) (λ a b c g h k. g (h k)) closed x steps r c.linked y i).1 has

    chain_high : (y : ℕ) → In y (mills_on x steps) → p ≤ level y
    chain_high y i =
        let up = (along shop at (λ a b. level a ≤ level b) (λ a. omega arith) (λ a b c g h. omega arith) P.rises x steps r c.linked y i).0 in
        omega (arith, P.last x c.start)

    first_next : next_price price x (load shop after x) ≡ p
    first_next = ap (last_price price x) (sym (add-one (load shop after x)) ∙ carried_first shop at x steps r c apart)

    last_last : last_price price r (load shop after r) ≡ next_price price r (load shop at r)
    last_last = ap (last_price price r) (carried_last shop at x steps r c apart ∙ add-one (load shop at r))

    shift_lasts : (m : ℕ) → m < shop.mills → last_price price m (load shop after m) ≤ lowered R p level m
    shift_lasts m low =
        ⊎_elim
        (λ (here : m ≡ x).
        let is = ap (λ k. last_price price k (load shop after k)) here in
        let high = chain_high m (subst (λ y. In y (mills_on x steps)) (sym here) (in_start x steps)) in
        let below = last_next price falls x (load shop after x) in
        lowered_above R p level m _ (omega (arith, first_next)) (λ _. omega (arith, first_next)))
        (λ (not_x : m ≡ x → ⊥).
        ⊎_elim
        (λ (here : m ≡ r).
        let is = ap (λ k. last_price price k (load shop after k)) here in
        let high = chain_high m (subst (λ y. In y (mills_on x steps)) (sym here) (in_end shop at x steps r c.linked)) in
        lowered_above R p level m _ (omega (arith, last_last)) (λ _. omega (arith, last_last)))
        (λ (not_r : m ≡ r → ⊥).
        let is = ap (last_price price m) (carried_other shop at x steps r c m not_x not_r) in
        lowered_above R p level m _ (omega (arith, P.last m low)) (λ h. omega (arith, greatest m low h)))
        (cases_eq m r))
        (cases_eq m x)

    shift_nexts : (m : ℕ) → m < shop.mills → (m ≡ r → ⊥) → lowered R p level m ≤ next_price price m (load shop after m)
    shift_nexts m low not_r =
        ⊎_elim
        (λ (here : m ≡ x).
        let is = ap (λ k. next_price price k (load shop after k)) here in
        omega (arith, first_next, lowered_in R p level m (chain_in m (subst (λ y. In y (mills_on x steps)) (sym here) (in_start x steps)))))
        (λ (not_x : m ≡ x → ⊥).
        omega (arith, ap (next_price price m) (carried_other shop at x steps r c m not_x not_r), lowered_below R p level m, P.next m low not_r))
        (cases_eq m x)

    shift_rises : (t a b : ℕ) → t < shop.tickets → after t ≡ Some a → b < shop.mills → shop.can t b ≡ true → lowered R p level a ≤ lowered R p level b
    shift_rises t a b k stands low may =
        ⊎_elim
        (λ (same : after t ≡ at t). lowered_rises p t a b k (sym same ∙ stands) low may)
        (λ (g : Shifted shop at after (mills_on x steps) t).
        let is = g.is in
        let same : g.to ≡ a = cc in
        let above = lowered_above R p level b p (omega (arith, chain_high g.from g.from_on, P.rises t g.from b k g.was low may)) (λ _. omega arith) in
        omega (arith, lowered_in R p level a (ap R (sym same) ∙ chain_in g.to g.to_on)))
        (carried_where shop at x steps r c t)

    pub shift_step : Potential shop price after (λ m. m ≡ r)
    shift_step = record { level = lowered R p level; last = shift_lasts; next = shift_nexts; rises = shift_rises }

    -- the room at r was for one ticket
    pub shift_last : level r ≤ price r (load shop at r + 2) → Potential shop price after None
    shift_last room = record {
      level = lowered R p level;
      last = shift_lasts;
      next = λ m low free.
          ⊎_elim
          (λ (here : m ≡ r).
          let is = ap (λ k. next_price price k (load shop after k)) here in
          let same = ap level here in
          let now : next_price price r (load shop after r) ≡ price r (load shop at r + 2) = ap (price r) (omega (arith, carried_last shop at x steps r c apart)) in
          omega (arith, lowered_below R p level m))
          (λ (other : m ≡ r → ⊥). shift_nexts m low other)
          (cases_eq m r);
      rises = shift_rises;
    }
