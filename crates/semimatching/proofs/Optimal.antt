-- A placement with a potential costs no more than any other semi-matching of the same tickets.
use Rattle.std.proofs.Common.{◌≡◌, ℕ, zero, suc, ◌+◌, ◌*◌, ◌<◌, ◌≤◌, is_some, Some, None, Option, refl, ap, ⊎_elim, mul-suc, arith}
use Rattle.std.proofs.lemmas.Bool.{cases_lt, cases_eq}
use Rattle.semimatching.specs.Sums.{sum_to}
use Rattle.semimatching.specs.Placements.{Shop, Placement, load, SemiMatching, SameTickets}
use Rattle.semimatching.specs.Prices.{Prices, NeverFalls, cost, total, last_price, next_price}
use Rattle.semimatching.specs.Potentials.{Potential, None as Nowhere}
use Rattle.semimatching.proofs.Sums.{sum_le, sum_add}
use Rattle.semimatching.proofs.Loads.{weight_of, weigh}

pub price_rises : (price : Prices) → NeverFalls price → (m i j : ℕ) → 1 ≤ i → i ≤ j → price m i ≤ price m j
price_rises price rise m i zero low high = absurd (omega arith)
price_rises price rise m i (suc j) low high =
    ⊎_elim
    (λ (e : i ≡ suc j). omega (arith, ap (price m) e))
    (λ (ne : i ≡ suc j → ⊥). omega (arith, price_rises price rise m i j low (omega arith), rise m j (omega arith)))
    (cases_eq i (suc j))

-- sums up to a and up to n, of values on one side of l in between
sum_above : (f : ℕ → ℕ) (l a n : ℕ) → a ≤ n → ((k : ℕ) → a ≤ k → l ≤ f k) → sum_to a f + l * n ≤ sum_to n f + l * a
unfolding sum_to
sum_above f l a zero up above = let e : a ≡ 0 = omega arith in omega (arith, ap (λ x. l * x) e, ap (λ x. sum_to x f) e)
sum_above f l a (suc n) up above =
    ⊎_elim
    (λ (e : a ≡ suc n). omega (arith, ap (λ x. l * x) e, ap (λ x. sum_to x f) e))
    (λ (ne : a ≡ suc n → ⊥). omega (arith, sum_above f l a n (omega arith) above, above n (omega arith), mul-suc l n))
    (cases_eq a (suc n))

sum_below : (f : ℕ → ℕ) (l a n : ℕ) → n ≤ a → ((k : ℕ) → k < a → f k ≤ l) → sum_to a f + l * n ≤ sum_to n f + l * a
unfolding sum_to
sum_below f l zero n up below = let e : n ≡ 0 = omega arith in omega (arith, ap (λ x. l * x) e, ap (λ x. sum_to x f) e)
sum_below f l (suc a) n up below =
    ⊎_elim
    (λ (e : n ≡ suc a). omega (arith, ap (λ x. l * x) e, ap (λ x. sum_to x f) e))
    (λ (ne : n ≡ suc a → ⊥). omega (arith, sum_below f l a n (omega arith) (λ k h. below k (omega arith)), below a (omega arith), mul-suc l a))
    (cases_eq n (suc a))

pub last_above : (price : Prices) → NeverFalls price → (m a k : ℕ) → k < a → price m (suc k) ≤ last_price price m a
last_above price rise m zero k h = absurd (omega arith)
last_above price rise m (suc a) k h = price_rises price rise m (suc k) (suc a) (omega arith) (omega arith)

-- between the last and the next price of a load a, the line through its cost lies below the costs
pub cost_level : (price : Prices) → NeverFalls price → (m a b l : ℕ) → last_price price m a ≤ l → l ≤ next_price price m a → cost price m a + l * b ≤ cost price m b + l * a
cost_level price rise m a b l low high =
    ⊎_elim
    (λ (less : b < a). sum_below (λ k. price m (suc k)) l a b (omega arith) (λ k h. omega (arith, last_above price rise m a k h)))
    (λ (more : a ≤ b). sum_above (λ k. price m (suc k)) l a b more (λ k h. omega (arith, price_rises price rise m (suc a) (suc k) (omega arith) (omega arith))))
    (cases_lt b a)

-- where the same tickets stand
weight_rises : (w : ℕ → ℕ) (o p : Option ℕ) → is_some o ≡ is_some p → ((a b : ℕ) → o ≡ Some a → p ≡ Some b → w a ≤ w b) → weight_of w o ≤ weight_of w p
weight_rises w None p same rise = omega arith
weight_rises w (Some a) None same rise = absurd (grind arith)
weight_rises w (Some a) (Some b) same rise = rise a b refl refl

pub least_total : (shop : Shop) (price : Prices) → NeverFalls price → (at : Placement) → SemiMatching shop at → Potential shop price at Nowhere
    → (other : Placement) → SemiMatching shop other → SameTickets shop at other → total shop price at ≤ total shop price other
least_total shop price rise at semi potential other semi_other same =
    let mine = load shop at in
    let theirs = load shop other in
    let level = potential.level in
    let mills = shop.mills in
    let costs = sum_le mills (λ m. cost price m (mine m) + level m * theirs m) (λ m. cost price m (theirs m) + level m * mine m)
    (λ m h. cost_level price rise m (mine m) (theirs m) (level m) (potential.last m h) (potential.next m h (λ e. e))) in
    let weights = sum_le shop.tickets (λ t. weight_of level (at t)) (λ t. weight_of level (other t))
    (λ t h. weight_rises level (at t) (other t) (same t h) (λ a b on on_other.
    let fits = semi_other t b h on_other in potential.rises t a b h on fits.0 fits.1)) in
    omega (
      arith,
      costs,
      weights,
      weigh shop at semi level,
      weigh shop other semi_other level,
      sum_add mills (λ m. cost price m (mine m)) (λ m. level m * theirs m),
      sum_add mills (λ m. cost price m (theirs m)) (λ m. level m * mine m),
    )
