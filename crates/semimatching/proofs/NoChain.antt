-- A semi-matching has a potential at the prices by position exactly if it has no improving chain.
use Rattle.std.proofs.Common.{◌≡◌, ℕ, zero, suc, ◌+◌, ◌<◌, ◌≤◌, max, true, false, cond, ◌⊎◌, List, [], ◌∷◌, ◌++◌, Some, None, Option, sym, refl, ap, ◌∙◌, subst, inl, inr, ⊎_elim, arith}
use Rattle.std.proofs.lemmas.Bool.{cases_eq, cases_lt, cases_Bool, cond-false}
use Rattle.semimatching.specs.Sums.{sum_to, greatest_to}
use Rattle.semimatching.specs.Placements.{Shop, Placement, load, SemiMatching}
use Rattle.semimatching.specs.Prices.{position, last_price}
use Rattle.semimatching.specs.Chains.{Step, Linked, mills_on, NotIn, Chain, NoImprovingChain}
use Rattle.semimatching.specs.Potentials.{Potential, None as NoMill}
use Rattle.semimatching.proofs.Sums.{sum_le, greatest_above, greatest_at}
use Rattle.semimatching.proofs.Loads.{weight_of}
use Rattle.semimatching.proofs.Carrying.{In, in_start, along, chain_end}

pub last_position : (m l : ℕ) → last_price position m l ≡ l
last_position m zero = refl
last_position m (suc l) = refl

-- along a chain the level does not fall
pub potential_no_chain : (shop : Shop) (at : Placement) → Potential shop position at NoMill → NoImprovingChain shop at
potential_no_chain shop at P v w steps c better =
    let up = (along shop at (λ a b. P.level a ≤ P.level b) (λ a. omega arith) (λ a b c g h. omega arith) P.rises v steps w c.linked v (in_start v steps)).1 in
    omega (arith, P.last v c.start, last_position v (load shop at v), P.next w (chain_end shop at v steps w c) (λ e. e))

in_or_not : (x : ℕ) (xs : List ℕ) → In x xs ⊎ NotIn x xs
in_or_not x [] = inr tt
in_or_not x (y ∷ ys) =
    ⊎_elim
    (λ (e : x ≡ y). inl (inl e))
    (λ (ne : x ≡ y → ⊥). ⊎_elim (λ (i : In x ys). inl (inr i)) (λ (i : NotIn x ys). inr (ne, i)) (in_or_not x ys))
    (cases_eq x y)

-- from each of its mills a chain goes on as a chain
pub chain_from : (shop : Shop) (at : Placement) (u : ℕ) (ss : List Step) (w : ℕ) → Chain shop at u ss w → (v : ℕ) → In v (mills_on u ss) → (steps : List Step) × Chain shop at v steps w
chain_from shop at u [] w c v i = ⊎_elim (λ (e : v ≡ u). ([], subst (λ x. Chain shop at x [] w) (sym e) c)) (λ i. absurd i) i
chain_from shop at u (s ∷ ss) w c v i =
    ⊎_elim
    (λ (e : v ≡ u). (s ∷ ss, subst (λ x. Chain shop at x (s ∷ ss) w) (sym e) c))
    (λ (later : In v (mills_on s.mill ss)). chain_from shop at s.mill ss w (record { start = c.linked.2; linked = c.linked.4; once = c.once.1 }) v later)
    i

-- without its loops, linked steps are a chain
pub cut : (shop : Shop) (at : Placement) (v : ℕ) (steps : List Step) (w : ℕ) → v < shop.mills → Linked shop at v steps w → (short : List Step) × Chain shop at v short w
cut shop at v [] w low l = ([], record { start = low; linked = l; once = (tt, tt) })
cut shop at v (s ∷ ss) w low l =
    let rest = cut shop at s.mill ss w l.2 l.4 in
    ⊎_elim
    (λ (i : In v (mills_on s.mill rest.0)). chain_from shop at s.mill rest.0 w rest.1 v i)
    (λ (i : NotIn v (mills_on s.mill rest.0)). (s ∷ rest.0, record { start = low; linked = (l.0, l.1, l.2, l.3, rest.1.linked); once = (i, rest.1.once) }))
    (in_or_not v (mills_on s.mill rest.0))

pub linked_more : (shop : Shop) (at : Placement) (v : ℕ) (steps : List Step) (a : ℕ) (s : Step) → Linked shop at v steps a
    → s.ticket < shop.tickets → at s.ticket ≡ Some a → s.mill < shop.mills → shop.can s.ticket s.mill ≡ true → Linked shop at v (steps ++ (s ∷ [])) s.mill
linked_more shop at v [] a s l k stands low may = (k, stands ∙ ap Some (sym l), low, may, refl)
linked_more shop at v (r ∷ rs) a s l k stands low may = (l.0, l.1, l.2, l.3, linked_more shop at r.mill rs a s l.4 k stands low may)

-- terms that never fall, with a sum that does not rise, stay
sum_stays : (n : ℕ) (f g : ℕ → ℕ) → ((k : ℕ) → k < n → f k ≤ g k) → sum_to n g ≤ sum_to n f → (k : ℕ) → k < n → g k ≤ f k
unfolding sum_to
sum_stays zero f g up down k h = absurd (omega arith)
sum_stays (suc n) f g up down k h =
    let below = sum_le n f g (λ j l. up j (omega arith)) in
    let top = up n (omega arith) in
    ⊎_elim
    (λ (e : k ≡ n). omega (arith, ap f e, ap g e))
    (λ (ne : k ≡ n → ⊥). sum_stays n f g (λ j l. up j (omega arith)) (omega arith) k (omega arith))
    (cases_eq k n)

greatest_from : (n : ℕ) (f : ℕ → ℕ) → (greatest_to n f ≡ 0) ⊎ ((i : ℕ) × (i < n) × (f i ≡ greatest_to n f))
unfolding greatest_to
greatest_from zero f = inl refl
greatest_from (suc n) f = inr (greatest_at (suc n) f (omega arith))

-- the load of a mill from which a chain comes
record Seen (shop : Shop) (at : Placement) (m l : ℕ) : Type 0 where
  origin : ℕ
  steps : List Step
  chain : Chain shop at origin steps m
  is : load shop at origin ≡ l

record Fair (shop : Shop) (at : Placement) (level : ℕ → ℕ) : Type 0 where
  above : (m : ℕ) → m < shop.mills → load shop at m ≤ level m
  seen : (m : ℕ) → m < shop.mills → Seen shop at m (level m)

module _ (shop : Shop) (at : Placement) where
  -- what a ticket brings to a mill that it may stand on
  abbrev brings : (ℕ → ℕ) → ℕ → ℕ → ℕ
  brings level b t = cond (shop.can t b) (weight_of level (at t)) 0

  -- each mill takes the greatest level that a ticket brings
  abbrev spread : (ℕ → ℕ) → ℕ → ℕ
  spread level b = max (level b) (greatest_to shop.tickets (brings level b))

  brings_at : (level : ℕ → ℕ) (t a b : ℕ) → at t ≡ Some a → shop.can t b ≡ true → brings level b t ≡ level a
  brings_at level t a b stands may = cc

  brings_from : (level : ℕ → ℕ) (t b : ℕ) → 0 < brings level b t → (a : ℕ) × (at t ≡ Some a) × (shop.can t b ≡ true)
  brings_from level t b some = from (at t) refl (cases_Bool (shop.can t b))
    where
      from : (o : Option ℕ) → at t ≡ o → (shop.can t b ≡ true) ⊎ (shop.can t b ≡ false) → (a : ℕ) × (at t ≡ Some a) × (shop.can t b ≡ true)
      from None e (inl may) = absurd (let z : brings level b t ≡ 0 = cc in omega arith)
      from (Some a) e (inl may) = (a, e, may)
      from None e (inr not_may) = absurd (omega (arith, cond-false (shop.can t b) (weight_of level (at t)) 0 not_may))
      from (Some a) e (inr not_may) = absurd (omega (arith, cond-false (shop.can t b) (weight_of level (at t)) 0 not_may))

  seen_more : (t a b l : ℕ) → t < shop.tickets → at t ≡ Some a → b < shop.mills → shop.can t b ≡ true → Seen shop at a l → Seen shop at b l
  seen_more t a b l k stands low may s =
      let more = linked_more shop at s.origin s.steps a (record { ticket = t; mill = b }) s.chain.linked k stands low may in
      let short = cut shop at s.origin _ b s.chain.start more in
      record { origin = s.origin; steps = short.0; chain = short.1; is = s.is }

  spread_fair : SemiMatching shop at → (level : ℕ → ℕ) → Fair shop at level → Fair shop at (spread level)
  spread_fair semi level fair = record {
    above = λ m low. omega (arith, fair.above m low);
    seen = λ b low.
        let g = greatest_to shop.tickets (brings level b) in
        ⊎_elim
        (λ (below : level b < g).
        ⊎_elim
        (λ (nothing : g ≡ 0). absurd (omega arith))
        (λ (best : (t : ℕ) × (t < shop.tickets) × (brings level b t ≡ g)).
        let from = brings_from level best.0 b (omega arith) in
        let same : level from.0 ≡ spread level b = omega (arith, brings_at level best.0 from.0 b from.1 from.2) in
        seen_more best.0 from.0 b (spread level b) best.1 from.1 low from.2
        (subst (Seen shop at from.0) same (fair.seen from.0 (semi best.0 from.0 best.1 from.1).0)))
        (greatest_from shop.tickets (brings level b)))
        (λ (enough : g ≤ level b). let same : level b ≡ spread level b = omega arith in subst (Seen shop at b) same (fair.seen b low))
        (cases_lt (level b) g);
  }

module _ (shop : Shop) (at : Placement) (semi : SemiMatching shop at) (none : NoImprovingChain shop at) where
  fair_next : (level : ℕ → ℕ) → Fair shop at level → (m : ℕ) → m < shop.mills → level m ≤ suc (load shop at m)
  fair_next level fair m low =
      let s = fair.seen m low in
      ⊎_elim
      (λ (much : suc (load shop at m) < level m). absurd (none s.origin m s.steps s.chain (omega (arith, s.is))))
      (λ (few : level m ≤ suc (load shop at m)). few)
      (cases_lt (suc (load shop at m)) (level m))

  -- levels that spreading leaves are a potential
  stable : (level : ℕ → ℕ) → Fair shop at level → ((m : ℕ) → m < shop.mills → spread shop at level m ≤ level m) → Potential shop position at NoMill
  stable level fair still = record {
    level = level;
    last = λ m low. omega (arith, last_position m (load shop at m), fair.above m low);
    next = λ m low free. fair_next level fair m low;
    rises = λ t a b k stands low may.
        omega (arith, brings_at shop at level t a b stands may, greatest_above shop.tickets (brings shop at level b) t k, still b low);
  }

  abbrev weight : (ℕ → ℕ) → ℕ
  weight level = sum_to shop.mills level

  -- spreading raises the sum of the levels until it leaves them
  climb : (k : ℕ) (level : ℕ → ℕ) → Fair shop at level → weight (λ m. suc (load shop at m)) ≤ weight level + k → Potential shop position at NoMill
  climb zero level fair room =
      let more = spread_fair shop at semi level fair in
      let bound = sum_le shop.mills (spread shop at level) (λ m. suc (load shop at m)) (fair_next _ more) in
      stable level fair (sum_stays shop.mills level (spread shop at level) (λ m low. omega arith) (omega arith))
  climb (suc k) level fair room =
      let more = spread_fair shop at semi level fair in
      ⊎_elim
      (λ (up : weight level < weight (spread shop at level)). climb k (spread shop at level) more (omega arith))
      (λ (still : weight (spread shop at level) ≤ weight level).
      stable level fair (sum_stays shop.mills level (spread shop at level) (λ m low. omega arith) still))
      (cases_lt (weight level) (weight (spread shop at level)))

  pub no_chain_potential : Potential shop position at NoMill
  no_chain_potential =
      climb (weight (λ m. suc (load shop at m))) (load shop at)
      (record {
        above = λ m low. omega arith;
        seen = λ m low. record { origin = m; steps = []; chain = record { start = low; linked = refl; once = (tt, tt) }; is = refl };
      })
      (omega arith)
