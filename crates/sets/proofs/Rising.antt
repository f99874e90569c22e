-- The numbers below a bound that pass a test: how many they are, which they are, and that they are the lists that rise.
use Rattle.std.proofs.Common.{◌≡◌, ℕ, zero, suc, ◌+◌, ◌<◌, ◌≤◌, Bool, true, false, cond, not, ◌&&◌, ◌||◌, eqb, ltb, ◌⊎◌, List, [], ◌∷◌, ◌++◌, length, filter, sym, refl, ap, ◌∙◌, subst, ap₂, inl, inr, ⊎_elim, zero-le, zero-add, add-one, one-add, arith}
use lib.Dec.{leb-suc-zero}
use Rattle.std.specs.List.{range_with_len, AllByRecursion as All}
use Rattle.std.proofs.lemmas.List.FromFn.{length-range_with_len, map-range_with_len_more}
use Rattle.std.proofs.lemmas.List.Elements.{filter-append}
use Rattle.std.proofs.lemmas.List.{map-id, nil_from_length, length-append}
use Rattle.std.proofs.lemmas.List.Sums.{length-filter, count_by-le-length}
use Rattle.std.proofs.Math.Bool.{or_assoc}
use Rattle.std.proofs.lemmas.Bool.{false≢true, cases_eq, lt-ltb, eqb-true, or_cases, and_from, eq-eqb, ne_eqb, or_from, or_left, and_right, cond-true, cond-false}
use Rattle.std.proofs.lemmas.Bool.Decides.{nat_tests}
use Rattle.sets.specs.Sets.{numbers, member, Rises}

-- one more number
counting_more : (n : ℕ) → range_with_len 0 (n + 1) ≡ range_with_len 0 n ++ n ∷ []
counting_more n = sym (map-id (range_with_len 0 (n + 1))) ∙ map-range_with_len_more (λ k. k) 0 n n (omega arith) ∙ ap (λ l. l ++ n ∷ []) (map-id (range_with_len 0 n))

pub numbers_more : (f : ℕ → Bool) (n : ℕ) → numbers f (n + 1) ≡ numbers f n ++ cond (f n) (n ∷ []) []
unfolding numbers
numbers_more f n = ap (filter f) (counting_more n) ∙ filter-append f (range_with_len 0 n) (n ∷ [])

-- tests that agree on the numbers from `a` on, `n` of them, keep the same
kept_same : (f g : ℕ → Bool) (a n : ℕ) → ((k : ℕ) → a ≤ k → k < a + n → f k ≡ g k) → filter f (range_with_len a n) ≡ filter g (range_with_len a n)
kept_same f g a zero h = refl
kept_same f g a (suc n) h =
    ap (λ l. cond (f a) (a ∷ l) l) (kept_same f g (a + 1) n (λ k low high. h k (omega arith) (omega arith)))
    ∙ ap (λ t. cond t (a ∷ filter g (range_with_len (a + 1) n)) (filter g (range_with_len (a + 1) n))) (h a (omega arith) (omega arith))

pub numbers_same : (f g : ℕ → Bool) (n : ℕ) → ((k : ℕ) → k < n → f k ≡ g k) → numbers f n ≡ numbers g n
unfolding numbers
numbers_same f g n h = kept_same f g 0 n (λ k low high. h k (omega arith))

pub length-numbers_le : (f : ℕ → Bool) (n : ℕ) → length (numbers f n) ≤ n
unfolding numbers
length-numbers_le f n = omega (arith, length-filter f (range_with_len 0 n), count_by-le-length f (range_with_len 0 n), length-range_with_len 0 n)

kept_none : (xs : List ℕ) → filter (λ _. false) xs ≡ []
kept_none [] = refl
kept_none (x ∷ xs) = kept_none xs

pub numbers-none : (f : ℕ → Bool) (n : ℕ) → ((k : ℕ) → k < n → f k ≡ false) → numbers f n ≡ []
unfolding numbers
numbers-none f n h = numbers_same f (λ _. false) n h ∙ kept_none (range_with_len 0 n)

-- ---- which numbers they are

pub member-append : (k : ℕ) (xs ys : List ℕ) → member k (xs ++ ys) ≡ (member k xs || member k ys)
member-append k [] ys = refl
member-append k (x ∷ xs) ys = ap (λ t. eqb k x || t) (member-append k xs ys) ∙ sym (or_assoc (eqb k x) (member k xs) (member k ys))

pub member-numbers : (f : ℕ → Bool) (k n : ℕ) → member k (numbers f n) ≡ (ltb k n && f k)
unfolding numbers
member-numbers f k zero = sym (ap (λ t. t && f k) (leb-suc-zero k))
member-numbers f k (suc n) =
    ap (λ m. member k (numbers f m)) (sym (add-one n)) ∙ ap (member k) (numbers_more f n) ∙ member-append k (numbers f n) (cond (f n) (n ∷ []) [])
    ∙ ap (λ t. t || member k (cond (f n) (n ∷ []) [])) (member-numbers f k n) ∙ last (f n) refl
  where
    last : (t : Bool) → f n ≡ t → ((ltb k n && f k) || member k (cond t (n ∷ []) [])) ≡ (ltb k (suc n) && f k)
    last true e = grind (arith, nat_tests)
    last false e = grind (arith, nat_tests)

-- where there are none, none passes
pub numbers_empty : (f : ℕ → Bool) (n : ℕ) → length (numbers f n) ≡ 0 → (k : ℕ) → k < n → f k ≡ false
numbers_empty f n e k l =
    let none : numbers f n ≡ [] = nil_from_length (numbers f n) e in
    sym (ap (λ t. t && f k) (lt-ltb k n l)) ∙ sym (member-numbers f k n) ∙ ap (member k) none

-- ---- what holds of each of them

pub all_member : (P : ℕ → Type 0) (xs : List ℕ) (k : ℕ) → All P xs → member k xs ≡ true → P k
all_member P [] k h e = absurd (false≢true e)
all_member P (x ∷ xs) k h e = ⊎_elim (λ t. subst P (sym (eqb-true k x t)) h.0) (λ t. all_member P xs k h.1 t) (or_cases (eqb k x) (member k xs) e)

pub numbers_all : (P : ℕ → Type 0) (f : ℕ → Bool) (n : ℕ) → All P (numbers f n) → (k : ℕ) → k < n → f k ≡ true → P k
numbers_all P f n h k l e = all_member P (numbers f n) k h (member-numbers f k n ∙ and_from (ltb k n) (f k) (lt-ltb k n l) e)

pub all_numbers : (P : ℕ → Type 0) (f : ℕ → Bool) (n : ℕ) → ((k : ℕ) → k < n → f k ≡ true → P k) → All P (numbers f n)
unfolding numbers
all_numbers P f n h = all_kept 0 n (λ k low high. h k (omega arith))
  where
    all_kept : (a m : ℕ) → ((k : ℕ) → a ≤ k → k < a + m → f k ≡ true → P k) → All P (filter f (range_with_len a m))
    all_kept a zero g = tt
    all_kept a (suc m) g = go (f a) refl (all_kept (a + 1) m (λ k low high. g k (omega arith) (omega arith)))
      where
        go : (t : Bool) → f a ≡ t → All P (filter f (range_with_len (a + 1) m)) → All P (cond t (a ∷ filter f (range_with_len (a + 1) m)) (filter f (range_with_len (a + 1) m)))
        go true e r = (g a (omega arith) (omega arith) e, r)
        go false e r = r

-- ---- lists that rise

rises_lower : (a b bound : ℕ) (xs : List ℕ) → a ≤ b → Rises b bound xs → Rises a bound xs
rises_lower a b bound [] le r = tt
rises_lower a b bound (x ∷ xs) le r = (omega arith, r.1, r.2)

kept_rise : (f : ℕ → Bool) (a n bound : ℕ) → a + n ≡ bound → Rises a bound (filter f (range_with_len a n))
kept_rise f a zero bound e = tt
kept_rise f a (suc n) bound e = go (f a) (kept_rise f (a + 1) n bound (omega arith))
  where
    go : (t : Bool) → Rises (a + 1) bound (filter f (range_with_len (a + 1) n)) → Rises a bound (cond t (a ∷ filter f (range_with_len (a + 1) n)) (filter f (range_with_len (a + 1) n)))
    go true r = (omega arith, omega arith, rises_lower (suc a) (a + 1) bound (filter f (range_with_len (a + 1) n)) (omega arith) r)
    go false r = rises_lower a (a + 1) bound (filter f (range_with_len (a + 1) n)) (omega arith) r

pub numbers_rise : (f : ℕ → Bool) (n : ℕ) → Rises 0 n (numbers f n)
unfolding numbers
numbers_rise f n = kept_rise f 0 n n (omega arith)

-- what stands below the floor is no member
not_below : (k floor bound : ℕ) (xs : List ℕ) → k < floor → Rises floor bound xs → member k xs ≡ false
not_below k floor bound [] l r = refl
not_below k floor bound (x ∷ xs) l r = or_from (eqb k x) (member k xs) (ne_eqb k x (λ e. omega arith)) (not_below k (suc x) bound xs (omega arith) r.2)

rising_kept : (a n bound : ℕ) (xs : List ℕ) → a + n ≡ bound → Rises a bound xs → xs ≡ filter (λ k. member k xs) (range_with_len a n)
rising_kept a n bound [] e r = sym (kept_none (range_with_len a n))
rising_kept a zero bound (x ∷ xs) e r = absurd (omega arith)
rising_kept a (suc n) bound (x ∷ xs) e r = go (rising_kept (a + 1) n bound) (cases_eq a x)
  where
    rest : List ℕ
    rest = filter (λ k. member k (x ∷ xs)) (range_with_len (a + 1) n)

    go : ((ys : List ℕ) → a + 1 + n ≡ bound → Rises (a + 1) bound ys → ys ≡ filter (λ k. member k ys) (range_with_len (a + 1) n)) → (a ≡ x) ⊎ (a ≡ x → ⊥) → x ∷ xs ≡ cond (member a (x ∷ xs)) (a ∷ rest) rest
    go ih (inl q) =
        let up : Rises (a + 1) bound xs = rises_lower (a + 1) (suc x) bound xs (omega arith) r.2 in
        let others = kept_same (λ k. member k xs) (λ k. member k (x ∷ xs)) (a + 1) n (λ k low high. ap (λ t. t || member k xs) (sym (ne_eqb k x (λ d. omega arith)))) in
        ap (λ h. h ∷ xs) (sym q) ∙ ap (λ l. a ∷ l) (ih xs (omega arith) up ∙ others)
        ∙ sym (cond-true (member a (x ∷ xs)) (a ∷ rest) rest (or_left (eqb a x) (member a xs) (eq-eqb a x q)))
    go ih (inr q) =
        let up : Rises (a + 1) bound (x ∷ xs) = (omega arith, r.1, r.2) in
        let out : member a (x ∷ xs) ≡ false = not_below a (a + 1) bound (x ∷ xs) (omega arith) up in
        ih (x ∷ xs) (omega arith) up ∙ sym (cond-false (member a (x ∷ xs)) (a ∷ rest) rest out)

pub rising-numbers : (bound : ℕ) (xs : List ℕ) → Rises 0 bound xs → xs ≡ numbers (λ k. member k xs) bound
unfolding numbers
rising-numbers bound xs r = rising_kept 0 bound bound xs (omega arith) r

-- a list that rises, up to one of its elements
rises_front : (floor bound x : ℕ) (xs ys : List ℕ) → Rises floor bound (xs ++ x ∷ ys) → (floor ≤ x) × Rises floor x xs × Rises x bound (x ∷ ys)
rises_front floor bound x [] ys r = (r.0, tt, (omega arith, r.1, r.2))
rises_front floor bound x (w ∷ ws) ys r = let k = rises_front (suc w) bound x ws ys r.2 in (omega arith, (r.0, k.0, k.1), k.2)

pub rising_front : (bound x : ℕ) (xs ys : List ℕ) → Rises 0 bound (xs ++ x ∷ ys) → xs ≡ numbers (λ k. member k (xs ++ x ∷ ys)) x
rising_front bound x xs ys r =
    let k = rises_front 0 bound x xs ys r in
    rising-numbers x xs k.1 ∙ numbers_same (λ n. member n xs) (λ n. member n (xs ++ x ∷ ys)) x (λ n l. sym (member-append n xs (x ∷ ys) ∙ ap (λ t. member n xs || t) (not_below n x bound (x ∷ ys) l k.2) ∙ or_false (member n xs)))
  where
    or_false : (b : Bool) → (b || false) ≡ b
    or_false true = refl
    or_false false = refl

-- ---- the least of them, and the others

-- `g` passes what `f` passes, but for `least`
kept_first : (f g : ℕ → Bool) (least a n : ℕ) → a ≤ least → least < a + n → f least ≡ true → ((k : ℕ) → k < least → f k ≡ false) → ((k : ℕ) → g k ≡ (not (eqb k least) && f k))
    → filter f (range_with_len a n) ≡ least ∷ filter g (range_with_len a n)
kept_first f g least a zero low high here below others = absurd (omega arith)
kept_first f g least a (suc n) low high here below others = go (cases_eq a least) (λ l. kept_first f g least (a + 1) n l (omega arith) here below others)
  where
    kept : (ℕ → Bool) → List ℕ
    kept t = filter t (range_with_len (a + 1) n)

    go : (a ≡ least) ⊎ (a ≡ least → ⊥) → (a + 1 ≤ least → kept f ≡ least ∷ kept g) → cond (f a) (a ∷ kept f) (kept f) ≡ least ∷ cond (g a) (a ∷ kept g) (kept g)
    go (inl e) ih =
        let rest : kept f ≡ kept g = kept_same f g (a + 1) n (λ k l h. sym (others k ∙ ap (λ t. not t && f k) (ne_eqb k least (λ d. omega arith)))) in
        let out : g a ≡ false = others a ∙ ap (λ t. not t && f a) (eq-eqb a least e) in
        cond-true (f a) (a ∷ kept f) (kept f) (ap f e ∙ here) ∙ ap (λ h. h ∷ kept f) e ∙ ap (λ l. least ∷ l) (rest ∙ sym (cond-false (g a) (a ∷ kept g) (kept g) out))
    go (inr d) ih =
        let out : f a ≡ false = below a (omega arith) in
        let out' : g a ≡ false = others a ∙ and_right (not (eqb a least)) (f a) out in
        cond-false (f a) (a ∷ kept f) (kept f) out ∙ ih (omega arith) ∙ ap (λ l. least ∷ l) (sym (cond-false (g a) (a ∷ kept g) (kept g) out'))

pub numbers_first : (f g : ℕ → Bool) (least n : ℕ) → least < n → f least ≡ true → ((k : ℕ) → k < least → f k ≡ false) → ((k : ℕ) → g k ≡ (not (eqb k least) && f k)) → numbers f n ≡ least ∷ numbers g n
unfolding numbers
numbers_first f g least n l here below others = kept_first f g least 0 n (omega arith) (omega arith) here below others

-- ---- how many they are

length-cond : (t : Bool) (x : ℕ) (xs : List ℕ) → length (cond t (x ∷ xs) xs) ≡ cond t 1 0 + length xs
length-cond true x xs = sym (one-add (length xs))
length-cond false x xs = sym (zero-add (length xs))

-- one number more
length_kept_insert : (f g : ℕ → Bool) (x a n : ℕ) → a ≤ x → x < a + n → f x ≡ false → ((k : ℕ) → g k ≡ (eqb k x || f k)) → length (filter g (range_with_len a n)) ≡ length (filter f (range_with_len a n)) + 1
length_kept_insert f g x a zero low high out more = absurd (omega arith)
length_kept_insert f g x a (suc n) low high out more = go (cases_eq a x) (λ l. length_kept_insert f g x (a + 1) n l (omega arith) out more)
  where
    kept : (ℕ → Bool) → List ℕ
    kept t = filter t (range_with_len (a + 1) n)

    at : (t : ℕ → Bool) (b : Bool) → t a ≡ b → length (cond (t a) (a ∷ kept t) (kept t)) ≡ cond b 1 0 + length (kept t)
    at t b e = length-cond (t a) a (kept t) ∙ ap (λ c. cond c 1 0 + length (kept t)) e

    go : (a ≡ x) ⊎ (a ≡ x → ⊥) → (a + 1 ≤ x → length (kept g) ≡ length (kept f) + 1) → length (cond (g a) (a ∷ kept g) (kept g)) ≡ length (cond (f a) (a ∷ kept f) (kept f)) + 1
    go (inl e) ih =
        let rest : kept g ≡ kept f = kept_same g f (a + 1) n (λ k l h. more k ∙ ap (λ t. t || f k) (ne_eqb k x (λ d. omega arith))) in
        omega (arith, at g true (more a ∙ ap (λ t. t || f a) (eq-eqb a x e)), at f false (ap f e ∙ out), ap length rest)
    go (inr d) ih =
        let same : g a ≡ f a = more a ∙ ap (λ t. t || f a) (ne_eqb a x d) in
        omega (arith, at g (f a) same, at f (f a) refl, ih (omega arith))

pub length-numbers-insert : (f g : ℕ → Bool) (x n : ℕ) → x < n → f x ≡ false → ((k : ℕ) → g k ≡ (eqb k x || f k)) → length (numbers g n) ≡ length (numbers f n) + 1
unfolding numbers
length-numbers-insert f g x n l out more = length_kept_insert f g x 0 n (omega arith) (omega arith) out more

-- one number fewer
pub length-numbers-remove : (f g : ℕ → Bool) (x n : ℕ) → x < n → f x ≡ true → ((k : ℕ) → g k ≡ (not (eqb k x) && f k)) → length (numbers f n) ≡ length (numbers g n) + 1
length-numbers-remove f g x n l here fewer = length-numbers-insert g f x n l (fewer x ∙ ap (λ t. not t && f x) (eq-eqb x x refl)) (λ k. ⊎_elim (same k) (other k) (cases_eq k x))
  where
    same : (k : ℕ) → k ≡ x → f k ≡ (eqb k x || g k)
    same k e = ap f e ∙ here ∙ sym (or_left (eqb k x) (g k) (eq-eqb k x e))

    other : (k : ℕ) → (k ≡ x → ⊥) → f k ≡ (eqb k x || g k)
    other k d = sym (ap (λ t. t || g k) (ne_eqb k x d) ∙ fewer k ∙ ap (λ t. not t && f k) (ne_eqb k x d))

-- what passes one test passes the other
pub length-numbers_mono : (f g : ℕ → Bool) (n : ℕ) → ((k : ℕ) → k < n → f k ≡ true → g k ≡ true) → length (numbers f n) ≤ length (numbers g n)
unfolding numbers
length-numbers_mono f g zero h = zero-le
length-numbers_mono f g (suc n) h = omega (arith, last f, last g, length-numbers_mono f g n (λ k l. h k (omega arith)), less (f n) (g n) (h n (omega arith)))
  where
    last : (t : ℕ → Bool) → length (numbers t (suc n)) ≡ length (numbers t n) + cond (t n) 1 0
    last t = ap (λ m. length (numbers t m)) (sym (add-one n)) ∙ ap length (numbers_more t n) ∙ length-append (numbers t n) (cond (t n) (n ∷ []) []) ∙ ap (λ m. length (numbers t n) + m) (one (t n))
      where
        one : (b : Bool) → length (cond b (n ∷ []) []) ≡ cond b 1 0
        one true = refl
        one false = refl

    less : (s t : Bool) → (s ≡ true → t ≡ true) → cond s 1 0 ≤ cond t 1 0
    less true true k = omega arith
    less true false k = absurd (false≢true (k refl))
    less false t k = zero-le

-- ---- 0, and the numbers after it

length_kept_next : (f : ℕ → Bool) (a n : ℕ) → length (filter f (range_with_len (a + 1) n)) ≡ length (filter (λ k. f (suc k)) (range_with_len a n))
length_kept_next f a zero = refl
length_kept_next f a (suc n) =
    length-cond (f (a + 1)) (a + 1) (filter f (range_with_len (a + 1 + 1) n))
    ∙ ap₂ (λ t m. cond t 1 0 + m) (ap f (add-one a)) (length_kept_next f (a + 1) n)
    ∙ sym (length-cond (f (suc a)) a (filter (λ k. f (suc k)) (range_with_len (a + 1) n)))

pub length-numbers-next : (f : ℕ → Bool) (n : ℕ) → length (numbers f (suc n)) ≡ cond (f 0) 1 0 + length (numbers (λ k. f (suc k)) n)
unfolding numbers
length-numbers-next f n = length-cond (f 0) 0 (filter f (range_with_len 1 n)) ∙ ap (λ m. cond (f 0) 1 0 + m) (length_kept_next f 0 n)
