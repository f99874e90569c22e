-- Numbers of a list, and the place at which each stands.
use Rattle.std.proofs.Common.{◌≡◌, ℕ, zero, suc, ◌<◌, Bool, false, cond, ◌||◌, eqb, ◌⊎◌, List, [], ◌∷◌, ◌++◌, length, get_or, Decides, sym, refl, ap, ◌∙◌, inl, inr, ⊎_elim, arith}
use Rattle.std.proofs.lemmas.Bool.{cases_eq, cond-true, cond-false, eq-eqb, ne_eqb, false≢true}
use Rattle.std.proofs.lemmas.Bool.Decides.{Decides-eqb, Decides-or}
use Rattle.semimatching.specs.Chains.{NotIn, Distinct}
use Rattle.semimatching.proofs.Carrying.{In, in_apart}

abbrev pub is_in : ℕ → List ℕ → Bool
is_in x [] = false
is_in x (y ∷ ys) = eqb x y || is_in x ys

pub is_in_lem : (x : ℕ) (xs : List ℕ) → Decides (is_in x xs) (In x xs)
is_in_lem x [] = (λ e. absurd (false≢true e), λ i. absurd i)
is_in_lem x (y ∷ ys) = Decides-or (eqb x y) (is_in x ys) (Decides-eqb x y) (is_in_lem x ys)

pub in_later : (x y : ℕ) (ys : List ℕ) → (x ≡ y → ⊥) → In x (y ∷ ys) → In x ys
in_later x y ys ne (inl e) = absurd (ne e)
in_later x y ys ne (inr i) = i

pub not_in : (x : ℕ) (xs : List ℕ) → (In x xs → ⊥) → NotIn x xs
not_in x [] out = tt
not_in x (y ∷ ys) out = (λ e. out (inl e), not_in x ys (λ i. out (inr i)))

pub in_left : (x : ℕ) (xs ys : List ℕ) → In x xs → In x (xs ++ ys)
in_left x [] ys i = absurd i
in_left x (y ∷ xs) ys (inl e) = inl e
in_left x (y ∷ xs) ys (inr i) = inr (in_left x xs ys i)

pub in_last : (x : ℕ) (xs : List ℕ) → In x (xs ++ (x ∷ []))
in_last x [] = inl refl
in_last x (y ∷ xs) = inr (in_last x xs)

pub in_push : (x : ℕ) (xs : List ℕ) (m : ℕ) → In x (xs ++ (m ∷ [])) → In x xs ⊎ (x ≡ m)
in_push x [] m (inl e) = inr e
in_push x [] m (inr i) = absurd i
in_push x (y ∷ xs) m (inl e) = inl (inl e)
in_push x (y ∷ xs) m (inr i) = ⊎_elim (λ (here : In x xs). inl (inr here)) (λ (e : x ≡ m). inr e) (in_push x xs m i)

not_in_push : (x : ℕ) (xs : List ℕ) (m : ℕ) → NotIn x xs → (x ≡ m → ⊥) → NotIn x (xs ++ (m ∷ []))
not_in_push x [] m out ne = (ne, tt)
not_in_push x (y ∷ xs) m out ne = (out.0, not_in_push x xs m out.1 ne)

pub distinct_push : (xs : List ℕ) (m : ℕ) → Distinct xs → (In m xs → ⊥) → Distinct (xs ++ (m ∷ []))
distinct_push [] m d out = (tt, tt)
distinct_push (x ∷ xs) m d out = (not_in_push x xs m d.0 (λ e. out (inl (sym e))), distinct_push xs m d.1 (λ i. out (inr i)))

-- the place of a number
abbrev pub index_in : ℕ → List ℕ → ℕ
index_in x [] = 0
index_in x (y ∷ ys) = cond (eqb x y) 0 (suc (index_in x ys))

pub index_here : (x y : ℕ) (ys : List ℕ) → x ≡ y → index_in x (y ∷ ys) ≡ 0
index_here x y ys e = cond-true _ _ _ (eq-eqb x y e)

pub index_there : (x y : ℕ) (ys : List ℕ) → (x ≡ y → ⊥) → index_in x (y ∷ ys) ≡ suc (index_in x ys)
index_there x y ys ne = cond-false _ _ _ (ne_eqb x y ne)

pub index_below : (x : ℕ) (xs : List ℕ) → In x xs → index_in x xs < length xs
index_below x [] i = absurd i
index_below x (y ∷ ys) i =
    let rest : In x ys → index_in x ys < length ys = index_below x ys in
    ⊎_elim
    (λ (e : x ≡ y). omega (arith, index_here x y ys e))
    (λ (ne : x ≡ y → ⊥). omega (arith, index_there x y ys ne, rest (in_later x y ys ne i)))
    (cases_eq x y)

pub index_same : (x y : ℕ) (xs : List ℕ) → In x xs → In y xs → index_in x xs ≡ index_in y xs → x ≡ y
index_same x y [] i j e = absurd i
index_same x y (z ∷ zs) i j e =
    let rest : In x zs → In y zs → index_in x zs ≡ index_in y zs → x ≡ y = index_same x y zs in
    ⊎_elim
    (λ (a : x ≡ z).
    ⊎_elim
    (λ (b : y ≡ z). a ∙ sym b)
    (λ (b : y ≡ z → ⊥). absurd (omega (arith, index_here x z zs a, index_there y z zs b)))
    (cases_eq y z))
    (λ (a : x ≡ z → ⊥).
    ⊎_elim
    (λ (b : y ≡ z). absurd (omega (arith, index_there x z zs a, index_here y z zs b)))
    (λ (b : y ≡ z → ⊥). rest (in_later x z zs a i) (in_later y z zs b j) (omega (arith, index_there x z zs a, index_there y z zs b)))
    (cases_eq y z))
    (cases_eq x z)

-- at the end of the list a number has the length for its place, and the others keep theirs
pub index_left : (x : ℕ) (xs ys : List ℕ) → In x xs → index_in x (xs ++ ys) ≡ index_in x xs
index_left x [] ys i = absurd i
index_left x (y ∷ xs) ys (inl e) = index_here x y (xs ++ ys) e ∙ sym (index_here x y xs e)
index_left x (y ∷ xs) ys (inr i) = ap (λ k. cond (eqb x y) 0 (suc k)) (index_left x xs ys i)

pub index_last : (x : ℕ) (xs : List ℕ) → (In x xs → ⊥) → index_in x (xs ++ (x ∷ [])) ≡ length xs
index_last x [] out = index_here x x [] refl
index_last x (y ∷ xs) out = index_there x y (xs ++ (x ∷ [])) (λ e. out (inl e)) ∙ ap suc (index_last x xs (λ i. out (inr i)))

pub in_place : (xs : List ℕ) (h : ℕ) → h < length xs → In (get_or xs h 0) xs
in_place [] h l = absurd (omega arith)
in_place (x ∷ xs) zero l = inl refl
in_place (x ∷ xs) (suc h) l = inr (in_place xs h (omega arith))

pub index_place : (xs : List ℕ) (h : ℕ) → Distinct xs → h < length xs → index_in (get_or xs h 0) xs ≡ h
index_place [] h d l = absurd (omega arith)
index_place (x ∷ xs) zero d l = index_here x x xs refl
index_place (x ∷ xs) (suc h) d l =
    index_there (get_or xs h 0) x xs (in_apart (get_or xs h 0) x xs d.0 (in_place xs h (omega arith))) ∙ ap suc (index_place xs h d.1 (omega arith))

pub place_index : (x : ℕ) (xs : List ℕ) → In x xs → get_or xs (index_in x xs) 0 ≡ x
place_index x [] i = absurd i
place_index x (y ∷ ys) i =
    let rest : In x ys → get_or ys (index_in x ys) 0 ≡ x = place_index x ys in
    ⊎_elim
    (λ (e : x ≡ y). ap (λ k. get_or (y ∷ ys) k 0) (index_here x y ys e) ∙ sym e)
    (λ (ne : x ≡ y → ⊥). ap (λ k. get_or (y ∷ ys) k 0) (index_there x y ys ne) ∙ rest (in_later x y ys ne i))
    (cases_eq x y)
