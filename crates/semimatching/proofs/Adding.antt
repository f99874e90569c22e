-- A new ticket that goes down a chain to the mill with the least next price within reach keeps the potential.
use Rattle.std.proofs.Common.{◌≡◌, ℕ, suc, ◌<◌, ◌≤◌, max, Bool, true, cond, List, Some, None, sym, ap, ◌∙◌, subst, ap₂, ⊎_elim, arith}
use Rattle.std.proofs.lemmas.Bool.{cases_eq, cond-true, cond_both}
use Rattle.std.proofs.lemmas.Bool.Decides.{nat_tests}
use Rattle.semimatching.specs.Placements.{Shop, Placement, load}
use Rattle.semimatching.specs.Prices.{Prices, NeverFalls, last_price, next_price}
use Rattle.semimatching.specs.Chains.{Step, mills_on, Chain}
use Rattle.semimatching.specs.Potentials.{Potential, None as NoMill}
use Rattle.semimatching.proofs.Carrying.{In, in_start, Shifted, along, chain_end, in_end, placed, placed_loads, placed_new, placed_where}

-- raised to at least p on R
abbrev pub raised : (ℕ → Bool) → ℕ → (ℕ → ℕ) → ℕ → ℕ
raised R p level m = cond (R m) (max (level m) p) (level m)

module _ (R : ℕ → Bool) (p : ℕ) (level : ℕ → ℕ) (m : ℕ) where
  raised_above : level m ≤ raised R p level m
  raised_above = cond_both (R m) _ _ (λ x. level m ≤ x) (λ r. omega arith) (λ r. omega arith)

  raised_in : R m ≡ true → p ≤ raised R p level m
  raised_in r = omega (arith, cond-true (R m) (max (level m) p) (level m) r)

  raised_below : (q : ℕ) → level m ≤ q → (R m ≡ true → p ≤ q) → raised R p level m ≤ q
  raised_below q le lep = cond_both (R m) _ _ (λ x. x ≤ q) (λ r. omega (arith, lep r)) (λ r. omega arith)

module _ (shop : Shop) (price : Prices) (falls : NeverFalls price) (at : Placement) (P : Potential shop price at NoMill)
    (n f : ℕ) (steps : List Step) (w : ℕ) (h : n < shop.tickets) (new : at n ≡ None) (can : shop.can n f ≡ true) (c : Chain shop at f steps w)
    (R : ℕ → Bool)
    (closed : (t a b : ℕ) → t < shop.tickets → at t ≡ Some a → R a ≡ true → b < shop.mills → shop.can t b ≡ true → R b ≡ true)
    (entry : (b : ℕ) → b < shop.mills → shop.can n b ≡ true → R b ≡ true)
    (least : (m : ℕ) → m < shop.mills → R m ≡ true → next_price price w (load shop at w) ≤ next_price price m (load shop at m)) where
  abbrev level : ℕ → ℕ
  level = P.level

  abbrev p : ℕ
  p = next_price price w (load shop at w)

  abbrev after : Placement
  after = placed at n f steps

  -- the mills of the chain are in R, and their level is at most p
  chain_in : (x : ℕ) → In x (mills_on f steps) → R x ≡ true
  chain_in x i = (along shop at (λ a b. R a ≡ true → R b ≡ true) (λ a r. r) (λ a b c g h r. h (g r)) (λ t a b k stands low may r. closed t a b k stands r low may)
      f steps w c.linked x i).0 (entry f c.start can)

  chain_low : (x : ℕ) → In x (mills_on f steps) → level x ≤ p
  chain_low x i =
      let up = (along shop at (λ a b. level a ≤ level b) (λ a. omega arith) (λ a b c g h. omega arith) P.rises f steps w c.linked x i).1 in
      omega (arith, P.next w (chain_end shop at f steps w c) (λ e. e))

  goes_up : (m : ℕ) → m ≡ w → load shop after m ≡ suc (load shop at w)
  goes_up m here = let all = placed_loads shop at n f steps w new c h m in let same = ap (load shop at) here in grind (arith, nat_tests)

  stays : (m : ℕ) → (m ≡ w → ⊥) → load shop after m ≡ load shop at m
  stays m other = let all = placed_loads shop at n f steps w new c h m in grind (arith, nat_tests)

  add_last : (m : ℕ) → m < shop.mills → last_price price m (load shop after m) ≤ raised R p level m
  add_last m low =
      ⊎_elim
      (λ (here : m ≡ w).
      let is : last_price price m (load shop after m) ≡ p = ap₂ (last_price price) here (goes_up m here) in
      omega (arith, raised_in R p level m (ap R here ∙ chain_in w (in_end shop at f steps w c.linked))))
      (λ (other : m ≡ w → ⊥). omega (arith, ap (last_price price m) (stays m other), P.last m low, raised_above R p level m))
      (cases_eq m w)

  add_next : (m : ℕ) → m < shop.mills → raised R p level m ≤ next_price price m (load shop after m)
  add_next m low =
      let below = P.next m low (λ e. e) in
      ⊎_elim
      (λ (here : m ≡ w).
      let is : next_price price m (load shop after m) ≡ price w (suc (suc (load shop at w))) = ap₂ (next_price price) here (goes_up m here) in
      let more = falls w (suc (load shop at w)) (omega arith) in
      let was : next_price price m (load shop at m) ≡ p = ap (λ x. next_price price x (load shop at x)) here in
      raised_below R p level m _ (omega arith) (λ r. omega arith))
      (λ (other : m ≡ w → ⊥).
      let is : next_price price m (load shop after m) ≡ next_price price m (load shop at m) = ap (next_price price m) (stays m other) in
      raised_below R p level m _ (omega arith) (λ r. omega (arith, least m low r)))
      (cases_eq m w)

  -- a mill of the chain is at p, and each mill of R is at least there
  up_from : (a b : ℕ) → In a (mills_on f steps) → R b ≡ true → raised R p level a ≤ raised R p level b
  up_from a b i r = omega (arith, raised_below R p level a p (chain_low a i) (λ r. omega arith), raised_in R p level b r)

  add_rises : (t a b : ℕ) → t < shop.tickets → after t ≡ Some a → b < shop.mills → shop.can t b ≡ true → raised R p level a ≤ raised R p level b
  add_rises t a b k stands low may =
      ⊎_elim
      (λ (here : t ≡ n).
      let arrives = placed_new shop at n f steps w new c in
      let same : a ≡ f = cc in
      up_from a b (subst (λ x. In x (mills_on f steps)) (sym same) (in_start f steps)) (entry b low (ap (λ x. shop.can x b) (sym here) ∙ may)))
      (λ (other : t ≡ n → ⊥).
      ⊎_elim
      (λ (same : after t ≡ at t).
      let stood : at t ≡ Some a = sym same ∙ stands in
      raised_below R p level a _
      (omega (arith, P.rises t a b k stood low may, raised_above R p level b))
      (λ r. raised_in R p level b (closed t a b k stood r low may)))
      (λ (g : Shifted shop at after (mills_on f steps) t).
      let is = g.is in
      let same : g.to ≡ a = cc in
      up_from a b (subst (λ x. In x (mills_on f steps)) same g.to_on) (closed t g.from b k g.was (chain_in g.from g.from_on) low may))
      (placed_where shop at n f steps w new c t other))
      (cases_eq t n)

  pub add_step : Potential shop price after NoMill
  add_step = record { level = raised R p level; last = add_last; next = λ m low free. add_next m low; rises = add_rises }
