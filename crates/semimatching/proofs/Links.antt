-- The links of a search: for each node found but the start, the ticket of its last step and the node before.
use Rattle.std.proofs.Common.{◌≡◌, ℕ, List, [], ◌∷◌, ◌++◌, sym, ap, ◌∙◌, subst, ap₂, inl, inr, ⊎_elim}
use Rattle.std.proofs.lemmas.Bool.{cond-true, cond-false, eq-eqb, ne_eqb}
use Rattle.semimatching.specs.Chains.{Step}
use Rattle.semimatching.proofs.Carrying.{In}
use Rattle.semimatching.proofs.Places.{in_left, in_push}
use Rattle.semimatching.proofs.Search.{updated}

abbrev pub Links : ℕ → List ℕ → (ℕ → List Step) → (ℕ → ℕ) → (ℕ → ℕ) → Type 0
Links start queue path ticket from = (y : ℕ) → In y queue → (y ≡ start → ⊥) → In (from y) queue × (path y ≡ record { ticket = ticket y; mill = y } ∷ path (from y))

pub updated_here : (path : ℕ → List Step) (m : ℕ) (p : List Step) (k : ℕ) → k ≡ m → updated path m p k ≡ p
updated_here path m p k e = cond-true _ _ _ (eq-eqb k m e)

pub updated_other : (path : ℕ → List Step) (m : ℕ) (p : List Step) (k : ℕ) → (k ≡ m → ⊥) → updated path m p k ≡ path k
updated_other path m p k ne = cond-false _ _ _ (ne_eqb k m ne)

pub links_start : (start : ℕ) (path : ℕ → List Step) (ticket from : ℕ → ℕ) → Links start (start ∷ []) path ticket from
links_start start path ticket from y (inl e) not = absurd (not e)
links_start start path ticket from y (inr i) not = absurd i

-- a new node m with its link
pub links_new : (start : ℕ) (queue : List ℕ) (path : ℕ → List Step) (ticket from ticket' from' : ℕ → ℕ) (m t v : ℕ) → In v queue → (In m queue → ⊥)
    → ticket' m ≡ t → from' m ≡ v → ((y : ℕ) → (y ≡ m → ⊥) → (ticket' y ≡ ticket y) × (from' y ≡ from y))
    → Links start queue path ticket from → Links start (queue ++ (m ∷ [])) (updated path m (record { ticket = t; mill = m } ∷ path v)) ticket' from'
links_new start queue path ticket from ticket' from' m t v within new here there kept links y i not =
    let after : ℕ → List Step = updated path m (record { ticket = t; mill = m } ∷ path v) in
    let old : (k : ℕ) → In k queue → after k ≡ path k = λ k j. updated_other path m _ k (λ e. new (subst (λ z. In z queue) e j)) in
    ⊎_elim
    (λ (j : In y queue).
    let was = links y j not in
    let same = kept y (λ e. new (subst (λ z. In z queue) e j)) in
    let before : from' y ≡ from y = same.1 in (
      in_left (from' y) queue _ (subst (λ z. In z queue) (sym before) was.0),
      old y j ∙ was.1 ∙ ap₂ (λ k p. record { ticket = k; mill = y } ∷ p) (sym same.0) (sym (old (from y) was.0) ∙ ap after (sym before)),
    ))
    (λ (e : y ≡ m).
    let before : from' y ≡ v = ap from' e ∙ there in (
      in_left (from' y) queue _ (subst (λ z. In z queue) (sym before) within),
      updated_here path m _ y e ∙ ap₂ ◌∷◌ (ap₂ (λ k z. record { ticket = k; mill = z }) (sym (ap ticket' e ∙ here)) (sym e)) (sym (old v within) ∙ ap after (sym before)),
    ))
    (in_push y queue m i)
