-- Rising numbers below a bound are those that a test keeps of all numbers below it, and the other way round.
use Rattle.std.proofs.Common.{◌≡◌, ℕ, zero, suc, ◌+◌, ◌<◌, ◌≤◌, Bool, true, false, cond, ◌&&◌, eqb, ltb, leb, List, [], ◌∷◌, length, filter, sym, refl, ◌∙◌, ⊎_elim, arith}
use Rattle.std.specs.List.{range_with_len, AllByRecursion as All}
use Rattle.std.proofs.lemmas.Bool.{and_parts, and_from, cond-false, or_cases, eqb-true, le-leb, lt-ltb, leb-true, ltb-true}
use Rattle.sets.specs.Sets.{numbers, member, Rises}
use Rattle.sets.proofs.Rising.{length-numbers_le, numbers_rise, member-numbers, rising-numbers}
use Rattle.sheet.specs.Sheets.{rising}

pub kept_same : (f g : ℕ → Bool) (a n : ℕ) → ((k : ℕ) → a ≤ k → k < a + n → f k ≡ g k) → filter f (range_with_len a n) ≡ filter g (range_with_len a n)
kept_same f g a zero same = refl
kept_same f g a (suc n) same =
    let rest = kept_same f g (a + 1) n (λ k low high. same k (omega arith) (omega arith)) in
    λ i. cond (same a (omega arith) (omega arith) i) (a ∷ rest i) (rest i)

pub kept_none : (f : ℕ → Bool) (a n : ℕ) → ((k : ℕ) → f k ≡ false) → filter f (range_with_len a n) ≡ []
kept_none f a zero none = refl
kept_none f a (suc n) none = cond-false _ _ _ (none a) ∙ kept_none f (a + 1) n none

-- the test of a sheet tells what `Rises` says
rises : (floor bound : ℕ) (xs : List ℕ) → rising floor bound xs ≡ true → Rises floor bound xs
rises floor bound [] r = tt
rises floor bound (x ∷ xs) r =
    let parts = and_parts (leb floor x) _ r in
    let later = and_parts (ltb x bound) _ parts.1 in
    (leb-true floor x parts.0, ltb-true x bound later.0, rises (suc x) bound xs later.1)

rising_from : (floor bound : ℕ) (xs : List ℕ) → Rises floor bound xs → rising floor bound xs ≡ true
rising_from floor bound [] r = refl
rising_from floor bound (x ∷ xs) r = and_from _ _ (le-leb floor x r.0) (and_from _ _ (lt-ltb x bound r.1) (rising_from (suc x) bound xs r.2))

-- the laws of rising numbers, at the numbers that a test keeps
module _ (f : ℕ → Bool) (bound : ℕ) where
  pub kept_short : length (filter f (range_with_len 0 bound)) ≤ bound
  unfolding numbers
  kept_short = length-numbers_le f bound

  pub kept_rising : rising 0 bound (filter f (range_with_len 0 bound)) ≡ true
  unfolding numbers
  kept_rising = rising_from 0 bound (numbers f bound) (numbers_rise f bound)

  pub member_kept : (k : ℕ) → member k (filter f (range_with_len 0 bound)) ≡ (ltb k bound && f k)
  unfolding numbers
  member_kept k = member-numbers f k bound

pub rising_kept : (bound : ℕ) (xs : List ℕ) → rising 0 bound xs ≡ true → filter (λ k. member k xs) (range_with_len 0 bound) ≡ xs
unfolding numbers
rising_kept bound xs r = sym (rising-numbers bound xs (rises 0 bound xs r))

pub rising-below : (floor bound : ℕ) (xs : List ℕ) → rising floor bound xs ≡ true → All (λ x. x < bound) xs
rising-below floor bound [] r = tt
rising-below floor bound (x ∷ xs) r =
    let parts = and_parts (leb floor x) _ r in
    let later = and_parts (ltb x bound) _ parts.1 in
    (ltb-true x bound later.0, rising-below (suc x) bound xs later.1)

pub member-rising : (floor bound k : ℕ) (xs : List ℕ) → rising floor bound xs ≡ true → member k xs ≡ true → k < bound
member-rising floor bound k [] r h = absurd (grind arith)
member-rising floor bound k (x ∷ xs) r h =
    let parts = and_parts (leb floor x) _ r in
    let later = and_parts (ltb x bound) _ parts.1 in
    let small = ltb-true x bound later.0 in
    ⊎_elim (λ (here : eqb k x ≡ true). omega (arith, eqb-true k x here)) (λ (rest : member k xs ≡ true). member-rising (suc x) bound k xs later.1 rest) (or_cases _ _ h)
