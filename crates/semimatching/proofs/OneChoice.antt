-- The rules and the order of walks leave one choice.
use Rattle.std.proofs.Common.{◌≡◌, ℕ, List, [], ◌∷◌, reverse, length, sym, refl, ap, ◌∙◌, ap₂, subst₂, arith}
use Rattle.std.proofs.lemmas.List.{reverse-reverse}
use Rattle.semimatching.specs.Placements.{Shop, Placement}
use Rattle.semimatching.specs.Chains.{Step, Linked}
use Rattle.semimatching.specs.Choice.{walk_from, walk_back, Placing, Shifting}
use Rattle.semimatching.proofs.WalkOrder.{same_step, not_after_antisymmetric}

heads : {r s : Step} {p q : List Step} → ◌≡◌ {A = List Step} (r ∷ p) (s ∷ q) → (r ≡ s) × (p ≡ q)
heads e = (cc, cc)

-- a walk tells the chain
pub walk_from_same : (n f g : ℕ) (steps ss : List Step) → walk_from n f steps ≡ walk_from n g ss → (f ≡ g) × (steps ≡ ss)
walk_from_same n f g steps ss e =
    let forth : (record { ticket = n; mill = f } ∷ steps) ≡ (record { ticket = n; mill = g } ∷ ss) = sym (reverse-reverse _) ∙ ap reverse e ∙ reverse-reverse _ in
    (ap (λ s. s.mill) (heads forth).0, (heads forth).1)

pub walk_back_same : (shop : Shop) (at : Placement) (r x y : ℕ) (steps ss : List Step) → Linked shop at x steps r → Linked shop at y ss r → walk_back x steps ≡ walk_back y ss → (x ≡ y) × (steps ≡ ss)
walk_back_same shop at r x y [] [] a b e = (a ∙ sym b, refl)
walk_back_same shop at r x y [] (s ∷ ss) a b e = absurd (omega (arith, ap length e))
walk_back_same shop at r x y (s ∷ ss) [] a b e = absurd (omega (arith, ap length e))
walk_back_same shop at r x y (s ∷ ss) (u ∷ us) a b e =
    let rest : (s.mill ≡ u.mill) × (ss ≡ us) = walk_back_same shop at r s.mill u.mill ss us a.4 b.4 (heads e).1 in
    (ap (λ k. k.mill) (heads e).0, ap₂ ◌∷◌ (same_step s u (ap (λ k. k.ticket) (heads e).0) rest.0) rest.1)

-- the steps tell the last mill
pub linked_end : (shop : Shop) (at : Placement) (v : ℕ) (steps : List Step) (w z : ℕ) → Linked shop at v steps w → Linked shop at v steps z → w ≡ z
linked_end shop at v [] w z a b = sym a ∙ b
linked_end shop at v (s ∷ ss) w z a b = linked_end shop at s.mill ss w z a.4 b.4

pub one_placing : (shop : Shop) (at : Placement) (n f : ℕ) (steps : List Step) (w g : ℕ) (ss : List Step) (z : ℕ)
    → Placing shop at n f steps w → Placing shop at n g ss z → (f ≡ g) × (steps ≡ ss) × (w ≡ z)
one_placing shop at n f steps w g ss z P Q =
    let up = P.least g ss z Q.may Q.chain in
    let down = Q.least f steps w P.may P.chain in
    let e = walk_from_same n f g steps ss (not_after_antisymmetric _ _ (P.first g ss z Q.may Q.chain (omega arith)) (Q.first f steps w P.may P.chain (omega arith))) in
    (e.0, e.1, linked_end shop at g ss w z (subst₂ (λ k l. Linked shop at k l w) e.0 e.1 P.chain.linked) Q.chain.linked)

pub one_shifting : (shop : Shop) (at : Placement) (r x : ℕ) (steps : List Step) (y : ℕ) (ss : List Step)
    → Shifting shop at x steps r → Shifting shop at y ss r → (x ≡ y) × (steps ≡ ss)
one_shifting shop at r x steps y ss P Q =
    let up = Q.greatest x steps P.chain in
    let down = P.greatest y ss Q.chain in
    walk_back_same shop at r x y steps ss P.chain.linked Q.chain.linked
    (not_after_antisymmetric _ _ (P.first y ss Q.chain (omega arith)) (Q.first x steps P.chain (omega arith)))
