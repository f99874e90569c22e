-- The order of walks: it is total and strict, and it goes along with one more step.
use Rattle.std.proofs.Common.{◌≡◌, suc, ◌<◌, ◌≤◌, ◌⊎◌, List, [], ◌∷◌, length, sym, refl, ap, ◌∙◌, subst, ap₂, inl, inr, ⊎_elim, arith}
use Rattle.std.proofs.lemmas.Bool.{cases_order}
use Rattle.semimatching.specs.Chains.{Step}
use Rattle.semimatching.specs.Walks.{Sooner, Earlier, Before, NotAfter}

pub same_step : (r s : Step) → r.ticket ≡ s.ticket → r.mill ≡ s.mill → r ≡ s
same_step r s t m = λ i. record { ticket = t i; mill = m i }

pub sooner_trans : (r s t : Step) → Sooner r s → Sooner s t → Sooner r t
sooner_trans r s t (inl a) (inl b) = inl (omega arith)
sooner_trans r s t (inl a) (inr b) = inl (omega arith)
sooner_trans r s t (inr a) (inl b) = inl (omega arith)
sooner_trans r s t (inr a) (inr b) = inr (omega arith)

sooner_irreflexive : (s : Step) → Sooner s s → ⊥
sooner_irreflexive s e = omega arith

pub sooner_total : (r s : Step) → (r ≡ s) ⊎ (Sooner r s ⊎ Sooner s r)
sooner_total r s =
    ⊎_elim
    (λ (t : r.ticket ≡ s.ticket).
    ⊎_elim
    (λ (m : r.mill ≡ s.mill). inl (same_step r s t m))
    (⊎_elim (λ (m : r.mill < s.mill). inr (inl (inr (t, m)))) (λ (m : s.mill < r.mill). inr (inr (inr (sym t, m)))))
    (cases_order r.mill s.mill))
    (⊎_elim (λ (t : r.ticket < s.ticket). inr (inl (inl t))) (λ (t : s.ticket < r.ticket). inr (inr (inl t))))
    (cases_order r.ticket s.ticket)

pub earlier_trans : (p q r : List Step) → Earlier p q → Earlier q r → Earlier p r
earlier_trans [] [] r e f = absurd e
earlier_trans [] (y ∷ q) r e f = absurd e
earlier_trans (x ∷ p) [] r e f = absurd e
earlier_trans (x ∷ p) (y ∷ q) [] e f = absurd f
earlier_trans (x ∷ p) (y ∷ q) (z ∷ r) (inl e) (inl f) = inl (earlier_trans p q r e f)
earlier_trans (x ∷ p) (y ∷ q) (z ∷ r) (inl e) (inr f) = inl (subst (Earlier p) f.0 e)
earlier_trans (x ∷ p) (y ∷ q) (z ∷ r) (inr e) (inl f) = inl (subst (λ k. Earlier k r) (sym e.0) f)
earlier_trans (x ∷ p) (y ∷ q) (z ∷ r) (inr e) (inr f) = inr (e.0 ∙ f.0, sooner_trans x y z e.1 f.1)

earlier_irreflexive : (p : List Step) → Earlier p p → ⊥
earlier_irreflexive [] e = e
earlier_irreflexive (s ∷ p) (inl e) = earlier_irreflexive p e
earlier_irreflexive (s ∷ p) (inr e) = sooner_irreflexive s e.1

earlier_total : (p q : List Step) → length p ≡ length q → (p ≡ q) ⊎ (Earlier p q ⊎ Earlier q p)
earlier_total [] [] l = inl refl
earlier_total [] (s ∷ q) l = absurd (omega arith)
earlier_total (r ∷ p) [] l = absurd (omega arith)
earlier_total (r ∷ p) (s ∷ q) l =
    ⊎_elim
    (λ (e : p ≡ q).
    ⊎_elim
    (λ (f : r ≡ s). inl (ap₂ ◌∷◌ f e))
    (⊎_elim (λ (f : Sooner r s). inr (inl (inr (e, f)))) (λ (f : Sooner s r). inr (inr (inr (sym e, f)))))
    (sooner_total r s))
    (⊎_elim (λ (e : Earlier p q). inr (inl (inl e))) (λ (e : Earlier q p). inr (inr (inl e))))
    (earlier_total p q (omega arith))

pub before_trans : (p q r : List Step) → Before p q → Before q r → Before p r
before_trans p q r (inl a) (inl b) = inl (omega arith)
before_trans p q r (inl a) (inr b) = inl (omega arith)
before_trans p q r (inr a) (inl b) = inl (omega arith)
before_trans p q r (inr a) (inr b) = inr (a.0 ∙ b.0, earlier_trans p q r a.1 b.1)

pub before_irreflexive : (p : List Step) → Before p p → ⊥
before_irreflexive p (inl a) = omega arith
before_irreflexive p (inr a) = earlier_irreflexive p a.1

pub before_total : (p q : List Step) → (p ≡ q) ⊎ (Before p q ⊎ Before q p)
before_total p q =
    ⊎_elim
    (λ (l : length p ≡ length q).
    ⊎_elim
    (λ (e : p ≡ q). inl e)
    (⊎_elim (λ (e : Earlier p q). inr (inl (inr (l, e)))) (λ (e : Earlier q p). inr (inr (inr (sym l, e)))))
    (earlier_total p q l))
    (⊎_elim (λ (l : length p < length q). inr (inl (inl l))) (λ (l : length q < length p). inr (inr (inl l))))
    (cases_order (length p) (length q))

pub not_after_before : (p q r : List Step) → NotAfter p q → Before q r → Before p r
not_after_before p q r (inl e) b = subst (λ k. Before k r) (sym e) b
not_after_before p q r (inr a) b = before_trans p q r a b

pub before_not_after : (p q r : List Step) → Before p q → NotAfter q r → Before p r
before_not_after p q r a (inl e) = subst (Before p) e a
before_not_after p q r a (inr b) = before_trans p q r a b

pub not_after_trans : (p q r : List Step) → NotAfter p q → NotAfter q r → NotAfter p r
not_after_trans p q r a (inl e) = subst (NotAfter p) e a
not_after_trans p q r a (inr b) = inr (not_after_before p q r a b)

pub not_after_antisymmetric : (p q : List Step) → NotAfter p q → NotAfter q p → p ≡ q
not_after_antisymmetric p q (inl e) b = e
not_after_antisymmetric p q (inr a) b = absurd (before_irreflexive p (before_not_after p q p a b))

-- what is not after is not before the other way round, and one of the two holds
pub not_after_not_before : (p q : List Step) → NotAfter p q → Before q p → ⊥
not_after_not_before p q a b = before_irreflexive p (not_after_before p q p a b)

pub not_after_total : (p q : List Step) → NotAfter p q ⊎ Before q p
not_after_total p q = ⊎_elim (λ (e : p ≡ q). inl (inl e)) (⊎_elim (λ (b : Before p q). inl (inr b)) (λ (b : Before q p). inr b)) (before_total p q)

pub not_after_length : (p q : List Step) → NotAfter p q → length p ≤ length q
not_after_length p q (inl e) = omega (arith, ap length e)
not_after_length p q (inr b) = omega arith

-- the last step counts least
pub before_cons : (r s : Step) (p q : List Step) → Before p q → Before (r ∷ p) (s ∷ q)
before_cons r s p q (inl a) = inl (omega arith)
before_cons r s p q (inr a) = inr (ap suc a.0, inl a.1)

pub sooner_cons : (r s : Step) (p : List Step) → Sooner r s → Before (r ∷ p) (s ∷ p)
sooner_cons r s p a = inr (refl, inr (refl, a))

pub not_after_cons : (s : Step) (p q : List Step) → NotAfter p q → NotAfter (s ∷ p) (s ∷ q)
not_after_cons s p q (inl e) = inl (ap (λ k. s ∷ k) e)
not_after_cons s p q (inr b) = inr (before_cons s s p q b)

pub before_longer : (s : Step) (p : List Step) → Before p (s ∷ p)
before_longer s p = inl (omega arith)

pub not_after_longer : (s : Step) (p q : List Step) → NotAfter p q → NotAfter p (s ∷ q)
not_after_longer s p q a = inr (not_after_before p q (s ∷ q) a (before_longer s q))

-- nothing is before the walk with no steps
earlier_nil : (p : List Step) → Earlier p [] → ⊥
earlier_nil [] e = e
earlier_nil (s ∷ p) e = e

pub before_nil : (p : List Step) → Before p [] → ⊥
before_nil p (inl a) = omega arith
before_nil p (inr a) = earlier_nil p a.1
