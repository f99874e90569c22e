-- What is left of a potential when a call begins: a ticket or a mill is taken away, or a mill comes back.
use Rattle.std.proofs.Common.{◌≡◌, ℕ, zero, suc, ◌+◌, ◌<◌, ◌≤◌, true, cond, eqb, ◌⊎◌, Some, None, Option, sym, refl, ap, ◌∙◌, ⊎_elim, arith}
use Rattle.std.proofs.lemmas.Bool.{cases_eq, cond-true, cond-false, eq-eqb, ne_eqb}
use Rattle.semimatching.specs.Sums.{greatest_to}
use Rattle.semimatching.specs.Placements.{Shop, Placement, load, SemiMatching}
use Rattle.semimatching.specs.Prices.{Prices, NeverFalls, last_price, next_price}
use Rattle.semimatching.specs.Potentials.{Potential, None as Nowhere}
use Rattle.semimatching.proofs.Sums.{greatest_above}
use Rattle.semimatching.proofs.Loads.{put, load_shop, load_le, load_empty, load-none, load_removed}
use Rattle.semimatching.proofs.Optimal.{last_above}

pub last_rises : (price : Prices) → NeverFalls price → (m a b : ℕ) → a ≤ b → last_price price m a ≤ last_price price m b
last_rises price rise m zero b h = omega arith
last_rises price rise m (suc a) b h = last_above price rise m b a (omega arith)

last_empty : (price : Prices) (m l : ℕ) → l ≡ 0 → last_price price m l ≡ 0
last_empty price m l none = ap (last_price price m) none

pub opening : (shop : Shop) (price : Prices) (at : Placement) → ((t : ℕ) → t < shop.tickets → at t ≡ None) → Potential shop price at Nowhere
opening shop price at none = record {
  level = λ m. 0;
  last = λ m h. omega (arith, last_empty price m (load shop at m) (load_empty shop at m (λ t low on. absurd (grind (arith, none t low)))));
  next = λ m h free. omega arith;
  rises = λ t a b h on hb able. omega arith;
}

-- who stands after a ticket is taken away stood before
pub removed_stood : (at : Placement) (t k m : ℕ) → put at t None k ≡ Some m → at k ≡ Some m
removed_stood at t k m on =
    ⊎_elim
    (λ (e : k ≡ t). absurd (grind (arith, cond-true {A = Option ℕ} (eqb k t) None (at k) (eq-eqb k t e))))
    (λ (ne : k ≡ t → ⊥). sym (cond-false {A = Option ℕ} (eqb k t) None (at k) (ne_eqb k t ne)) ∙ on)
    (cases_eq k t)

pub removed_start : (shop : Shop) (price : Prices) → NeverFalls price → (at : Placement) → SemiMatching shop at → (t r : ℕ) → t < shop.tickets → at t ≡ Some r → Potential shop price at Nowhere
    → (p : Potential shop price (put at t None) (λ m. m ≡ r)) × (p.level r ≤ price r (load shop (put at t None) r + 2))
removed_start shop price rise at semi t r h on p =
    let before = load shop at in
    let after = load shop (put at t None) in
    let shift = load_removed shop at t r h on in
    let here : suc (before r) ≡ after r + 2 = omega (arith, shift r, cond-true {A = ℕ} (eqb r r) 1 0 (eq-eqb r r refl)) in (
      record {
        level = p.level;
        last = λ m low. omega (arith, p.last m low, last_rises price rise m (after m) (before m) (omega (arith, shift m)));
        next = λ m low off.
            let same : before m ≡ after m = omega (arith, shift m, cond-false {A = ℕ} (eqb m r) 1 0 (ne_eqb m r off)) in
            omega (arith, p.next m low (λ e. e), ap (next_price price m) same);
        rises = λ k a b low stands. p.rises k a b low (removed_stood at t k a stands);
      },
      omega (arith, p.next r (semi t r h on).0 (λ e. e), ap (price r) here),
    )

-- a potential does not look at more of a shop
pub same_shop : (shop shop' : Shop) (price : Prices) (at : Placement) (free : ℕ → Type 0) → shop'.tickets ≡ shop.tickets → shop'.mills ≡ shop.mills
    → ((t a b : ℕ) → t < shop.tickets → at t ≡ Some a → b < shop.mills → shop'.can t b ≡ true → shop.can t b ≡ true)
    → Potential shop price at free → Potential shop' price at free
same_shop shop shop' price at free tickets mills able p =
    let loads : (m : ℕ) → load shop' at m ≡ load shop at m = λ m. load_shop shop shop' at m tickets in
    record {
      level = p.level;
      last = λ m low. omega (arith, p.last m (omega arith), ap (last_price price m) (loads m));
      next = λ m low off. omega (arith, p.next m (omega arith) off, ap (next_price price m) (loads m));
      rises = λ t a b low on high can. p.rises t a b (omega arith) on (omega arith) (able t a b (omega arith) on (omega arith) can);
    }

-- the levels with another one at the mill x
abbrev levelled : (ℕ → ℕ) → ℕ → ℕ → ℕ → ℕ
levelled level x l m = cond (eqb m x) l (level m)

level_here : (level : ℕ → ℕ) (x l m : ℕ) → m ≡ x → levelled level x l m ≡ l
level_here level x l m e = cond-true (eqb m x) l (level m) (eq-eqb m x e)

level_other : (level : ℕ → ℕ) (x l m : ℕ) → (m ≡ x → ⊥) → levelled level x l m ≡ level m
level_other level x l m ne = cond-false (eqb m x) l (level m) (ne_eqb m x ne)

-- a mill v is withdrawn, with the tickets on it
pub withdrawn_start : (shop shop' : Shop) (price : Prices) (at after : Placement) (v : ℕ) → shop'.tickets ≡ shop.tickets → shop'.mills ≡ shop.mills
    → ((t m : ℕ) → shop'.can t m ≡ true → (shop.can t m ≡ true) × (m ≡ v → ⊥))
    → ((t m : ℕ) → t < shop.tickets → after t ≡ Some m → (at t ≡ Some m) × (m ≡ v → ⊥))
    → ((t m : ℕ) → t < shop.tickets → at t ≡ Some m → (m ≡ v → ⊥) → after t ≡ Some m)
    → Potential shop price at Nowhere → Potential shop' price after Nowhere
withdrawn_start shop shop' price at after v tickets mills able stood kept p =
    let here : (m : ℕ) → m ≡ v → load shop' after m ≡ 0 = λ m e.
    omega (arith, load_shop shop shop' after m tickets, load_empty shop after m (λ t low on. (stood t m low on).1 e)) in
    let other : (m : ℕ) → (m ≡ v → ⊥) → load shop' after m ≡ load shop at m = λ m ne.
    omega (arith, load_shop shop shop' after m tickets, load_le shop after at m (λ t low on. (stood t m low on).0), load_le shop at after m (λ t low on. kept t m low on ne)) in
    let level_here = level_here p.level v 0 in
    let level_other = level_other p.level v 0 in
    record {
      level = levelled p.level v 0;
      last = λ m low. ⊎_elim
          (λ (e : m ≡ v). omega (arith, last_empty price m (load shop' after m) (here m e)))
          (λ (ne : m ≡ v → ⊥). omega (arith, level_other m ne, p.last m (omega arith), ap (last_price price m) (other m ne)))
          (cases_eq m v);
      next = λ m low off. ⊎_elim
          (λ (e : m ≡ v). omega (arith, level_here m e))
          (λ (ne : m ≡ v → ⊥). omega (arith, level_other m ne, p.next m (omega arith) off, ap (next_price price m) (other m ne)))
          (cases_eq m v);
      rises = λ t a b low on high can.
          let was = stood t a (omega arith) on in
          let could = able t b can in
          omega (arith, level_other a was.1, level_other b could.1, p.rises t a b (omega arith) was.0 (omega arith) could.0);
    }

-- a mill r comes back, with no ticket on it
pub returned_start : (shop shop' : Shop) (price : Prices) (at : Placement) (r : ℕ) → shop'.tickets ≡ shop.tickets → shop'.mills ≡ shop.mills
    → ((t m : ℕ) → shop'.can t m ≡ true → (shop.can t m ≡ true) ⊎ (m ≡ r))
    → SemiMatching shop at → load shop at r ≡ 0
    → Potential shop price at Nowhere → Potential shop' price at (λ m. m ≡ r)
returned_start shop shop' price at r tickets mills able semi empty p =
    let top = greatest_to shop.mills p.level in
    let loads : (m : ℕ) → load shop' at m ≡ load shop at m = λ m. load_shop shop shop' at m tickets in
    let level_here = level_here p.level r top in
    let level_other = level_other p.level r top in
    record {
      level = levelled p.level r top;
      last = λ m low. ⊎_elim
          (λ (e : m ≡ r). omega (arith, last_empty price m (load shop' at m) (loads m ∙ ap (load shop at) e ∙ empty)))
          (λ (ne : m ≡ r → ⊥). omega (arith, level_other m ne, p.last m (omega arith), ap (last_price price m) (loads m)))
          (cases_eq m r);
      next = λ m low off. omega (arith, level_other m off, p.next m (omega arith) (λ e. e), ap (next_price price m) (loads m));
      rises = λ t a b low on high can.
          let stays = semi t a (omega arith) on in
          let own = level_other a (λ e. load-none shop at t a (ap (load shop at) e ∙ empty) (omega arith) on) in
          ⊎_elim
          (λ (e : b ≡ r). omega (arith, own, level_here b e, greatest_above shop.mills p.level a stays.0))
          (λ (ne : b ≡ r → ⊥). ⊎_elim
          (λ could. omega (arith, own, level_other b ne, p.rises t a b (omega arith) on (omega arith) could))
          (λ e. absurd (ne e))
          (able t b can))
          (cases_eq b r);
    }
