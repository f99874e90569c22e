-- What a change of one ticket does to the loads, and that a sum over the mills, weighed by their loads, is a sum over the tickets.
use Rattle.std.proofs.Common.{◌≡◌, ℕ, ◌+◌, ◌*◌, ◌<◌, ◌≤◌, cond, eqb, Some, None, Option, sym, refl, ap, ◌∙◌, ⊎_elim, mul-zero, mul-one, arith}
use Rattle.std.proofs.lemmas.Bool.{cases_eq, cond-true, cond-false, eq-eqb, ne_eqb}
use Rattle.std.proofs.lemmas.Bool.Decides.{nat_tests}
use Rattle.semimatching.specs.Sums.{sum_to, count_to}
use Rattle.semimatching.specs.Placements.{Shop, Placement, stands_on, load, SemiMatching}
use Rattle.semimatching.proofs.Sums.{sum_same, sum_le, sum-zero, sum_scale, sum-swap, sum_one_from, sum_change, sum_term_le}

-- 1 for the mill that a ticket stands on
abbrev pub share : Option ℕ → ℕ → ℕ
share o m = cond (stands_on o m) 1 0

-- the placement with another place for one ticket
abbrev pub put : Placement → ℕ → Option ℕ → Placement
put at t o k = cond (eqb k t) o (at k)

share_here : (m : ℕ) → share (Some m) m ≡ 1
share_here m = cond-true (eqb m m) 1 0 (eq-eqb m m refl)

share_other : (a m : ℕ) → (a ≡ m → ⊥) → share (Some a) m ≡ 0
share_other a m ne = cond-false (eqb a m) 1 0 (ne_eqb a m ne)

share_flip : (a m : ℕ) → share (Some a) m ≡ cond (eqb m a) 1 0
share_flip a m = grind (arith, nat_tests)

pub load_same : (shop : Shop) (at other : Placement) → ((t : ℕ) → t < shop.tickets → at t ≡ other t) → (m : ℕ) → load shop at m ≡ load shop other m
load_same shop at other same m = sum_same shop.tickets (λ t. share (at t) m) (λ t. share (other t) m) (λ t h. ap (λ o. share o m) (same t h))

-- a load does not look at more of a shop
pub load_shop : (shop shop' : Shop) (at : Placement) (m : ℕ) → shop'.tickets ≡ shop.tickets → load shop' at m ≡ load shop at m
load_shop shop shop' at m tickets = ap (λ n. count_to n (λ t. stands_on (at t) m)) tickets

share_le : (o p : Option ℕ) (m : ℕ) → (o ≡ Some m → p ≡ Some m) → share o m ≤ share p m
share_le None p m on = omega arith
share_le (Some a) p m on =
    ⊎_elim
    (λ (e : a ≡ m). omega (arith, share_here m, ap (λ o. share o m) (on (ap Some e)), ap (λ x. share (Some x) m) e))
    (λ (ne : a ≡ m → ⊥). omega (arith, share_other a m ne))
    (cases_eq a m)

-- every ticket on m in the one placement is on m in the other
pub load_le : (shop : Shop) (at other : Placement) (m : ℕ) → ((t : ℕ) → t < shop.tickets → at t ≡ Some m → other t ≡ Some m) → load shop at m ≤ load shop other m
load_le shop at other m on = sum_le shop.tickets (λ t. share (at t) m) (λ t. share (other t) m) (λ t h. share_le (at t) (other t) m (on t h))

pub load_empty : (shop : Shop) (at : Placement) (m : ℕ) → ((t : ℕ) → t < shop.tickets → at t ≡ Some m → ⊥) → load shop at m ≡ 0
load_empty shop at m none = omega (arith, load_le shop at (λ t. None) m (λ t h on. absurd (none t h on)), sum-zero shop.tickets)

-- placements that agree but at one ticket
pub load_change : (shop : Shop) (at other : Placement) (t : ℕ) → t < shop.tickets → ((k : ℕ) → k < shop.tickets → (k ≡ t → ⊥) → other k ≡ at k)
    → (m : ℕ) → load shop other m + share (at t) m ≡ load shop at m + share (other t) m
load_change shop at other t h same m =
    sum_change shop.tickets (λ k. share (at k) m) (λ k. share (other k) m) t h (λ k l ne. ap (λ o. share o m) (same k l ne))

pub load-put : (shop : Shop) (at : Placement) (t : ℕ) (o : Option ℕ) → t < shop.tickets → (m : ℕ) → load shop (put at t o) m + share (at t) m ≡ load shop at m + share o m
load-put shop at t o h m =
    omega (
      arith,
      load_change shop at (put at t o) t h (λ k l ne. cond-false (eqb k t) o (at k) (ne_eqb k t ne)) m,
      ap (λ p. share p m) (cond-true (eqb t t) o (at t) (eq-eqb t t refl)),
    )

load-put_from : (shop : Shop) (at : Placement) (t : ℕ) (p o : Option ℕ) → t < shop.tickets → at t ≡ p → (m : ℕ) → load shop (put at t o) m + share p m ≡ load shop at m + share o m
load-put_from shop at t p o h is m = omega (arith, load-put shop at t o h m, ap (λ q. share q m) is)

pub load_moved : (shop : Shop) (at : Placement) (t u v : ℕ) → t < shop.tickets → at t ≡ Some v → (v ≡ u → ⊥)
    → (load shop (put at t (Some u)) u ≡ load shop at u + 1)
    × (load shop (put at t (Some u)) v + 1 ≡ load shop at v)
    × ((m : ℕ) → (m ≡ u → ⊥) → (m ≡ v → ⊥) → load shop (put at t (Some u)) m ≡ load shop at m)
load_moved shop at t u v h on ne =
    let shift : (m : ℕ) → load shop (put at t (Some u)) m + share (Some v) m ≡ load shop at m + share (Some u) m = λ m. load-put_from shop at t (Some v) (Some u) h on m in (
      omega (arith, shift u, share_other v u ne, share_here u),
      omega (arith, shift v, share_here v, share_other u v (λ e. ne (sym e))),
      λ m not_u not_v. omega (arith, shift m, share_other v m (λ e. not_v (sym e)), share_other u m (λ e. not_u (sym e))),
    )

pub load_placed : (shop : Shop) (at : Placement) (t u : ℕ) → t < shop.tickets → at t ≡ None → (m : ℕ) → load shop (put at t (Some u)) m ≡ load shop at m + cond (eqb m u) 1 0
load_placed shop at t u h off m = omega (arith, load-put_from shop at t None (Some u) h off m, share_flip u m)

pub load_removed : (shop : Shop) (at : Placement) (t v : ℕ) → t < shop.tickets → at t ≡ Some v → (m : ℕ) → load shop (put at t None) m + cond (eqb m v) 1 0 ≡ load shop at m
load_removed shop at t v h on m = omega (arith, load-put_from shop at t (Some v) None h on m, share_flip v m)

pub load-some : (shop : Shop) (at : Placement) (t m : ℕ) → t < shop.tickets → at t ≡ Some m → 1 ≤ load shop at m
load-some shop at t m h on = omega (arith, sum_term_le shop.tickets (λ k. share (at k) m) t h, ap (λ o. share o m) on, share_here m)

pub load-none : (shop : Shop) (at : Placement) (t m : ℕ) → load shop at m ≡ 0 → t < shop.tickets → at t ≡ Some m → ⊥
load-none shop at t m none h on = omega (arith, load-some shop at t m h on)

abbrev pub weight_of : (ℕ → ℕ) → Option ℕ → ℕ
weight_of w None = 0
weight_of w (Some m) = w m

weigh_one : (n : ℕ) (w : ℕ → ℕ) (o : Option ℕ) → ((m : ℕ) → o ≡ Some m → m < n) → sum_to n (λ m. w m * share o m) ≡ weight_of w o
weigh_one n w None low = sum_same n (λ m. w m * 0) (λ m. 0) (λ m h. mul-zero (w m)) ∙ sum-zero n
weigh_one n w (Some a) low =
    sum_same n (λ m. w m * share (Some a) m) (λ m. cond (eqb a m) (w a) 0) (λ m h. grind (arith, nat_tests, mul-zero (w m), mul-one (w m))) ∙ sum_one_from n a (w a) (low a refl)

pub weigh : (shop : Shop) (at : Placement) → SemiMatching shop at → (w : ℕ → ℕ) → sum_to shop.mills (λ m. w m * load shop at m) ≡ sum_to shop.tickets (λ t. weight_of w (at t))
weigh shop at semi w =
    sum_same shop.mills (λ m. w m * load shop at m) (λ m. sum_to shop.tickets (λ t. w m * share (at t) m)) (λ m h. sym (sum_scale shop.tickets (w m) (λ t. share (at t) m)))
    ∙ sum-swap shop.mills shop.tickets (λ m t. w m * share (at t) m)
    ∙ sum_same shop.tickets (λ t. sum_to shop.mills (λ m. w m * share (at t) m)) (λ t. weight_of w (at t)) (λ t h. weigh_one shop.mills w (at t) (λ m on. (semi t m h on).0))
