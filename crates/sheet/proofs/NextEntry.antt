-- The next program with a mill, from a program on, or that none is left.
use Rattle.std.proofs.Common.{◌≡◌, ℕ, zero, suc, ◌+◌, ◌-◌, ◌<◌, ◌≤◌, ◌⊎◌, List, [], ◌∷◌, ◌++◌, length, sym, refl, ap, ◌∙◌, subst, inl, inr, ⊎_elim, arith}
use Rattle.std.proofs.lemmas.Bool.{cases_eq}
use Rattle.capability.specs.Meaning.{Meaning}
use Rattle.sheet.specs.Frames.{frame_text}
use Rattle.sheet.specs.Written.{mills_for, entries_text}
use Rattle.sheet.proofs.EntriesLaws.{text_entry, entries_none, entries_skip}

-- no program from p on has a mill
pub record NoneLeft (m : Meaning) (p n : ℕ) : Type 0 where
  pub none : (k : ℕ) → p ≤ k → k < 256 → mills_for m k ≡ []
  pub text : entries_text m p n ≡ []

-- q is the first program from p on that has a mill
pub record NextIs (m : Meaning) (p n : ℕ) : Type 0 where
  pub q : ℕ
  pub low : p ≤ q
  pub high : q < 256
  pub between : (k : ℕ) → p ≤ k → k < q → mills_for m k ≡ []
  pub some : 0 < length (mills_for m q)
  pub text : entries_text m p n ≡ frame_text (record { kind = 2; payload = q ∷ mills_for m q }) ++ entries_text m (q + 1) (255 - q)

module _ (m : Meaning) where
  none_left : (p n : ℕ) → p + n ≡ 256 → ((k : ℕ) → p ≤ k → k < 256 → mills_for m k ≡ []) → NoneLeft m p n
  none_left p n e none = record { none = none; text = entries_none m p n (λ k low high. none k low (omega arith)) }

  next_is : (p n q : ℕ) → p + n ≡ 256 → p ≤ q → q < 256 → ((k : ℕ) → p ≤ k → k < q → mills_for m k ≡ []) → 0 < length (mills_for m q) → NextIs m p n
  next_is p n q e low high between some = record {
    q = q;
    low = low;
    high = high;
    between = between;
    some = some;
    text = entries_skip m p n q (255 - q) low (omega arith) between ∙ ap (λ t. t ++ entries_text m (q + 1) (255 - q)) (text_entry q (mills_for m q) some);
  }

  -- the mills of program p are xs, and the programs after p are searched
  first_or_later : (p n : ℕ) (xs : List ℕ) → p + suc n ≡ 256 → mills_for m p ≡ xs → NoneLeft m (p + 1) n ⊎ NextIs m (p + 1) n → NoneLeft m p (suc n) ⊎ NextIs m p (suc n)
  first_or_later p n (x ∷ xs) e is later =
      inr (next_is p (suc n) p e (omega arith) (omega arith) (λ k low high. absurd (omega arith)) (subst (λ l. 0 < length l) (sym is) (omega arith)))
  first_or_later p n [] e is later =
      ⊎_elim
      (λ (none : NoneLeft m (p + 1) n). inl (none_left p (suc n) e (from (λ k. k < 256) none.none)))
      (λ (next : NextIs m (p + 1) n). inr (next_is p (suc n) next.q e (omega (arith, next.low)) next.high (from (λ k. k < next.q) next.between) next.some))
      later
    where
      -- what holds of the programs after p holds from p on
      from : (R : ℕ → Type 0) → ((k : ℕ) → p + 1 ≤ k → R k → mills_for m k ≡ []) → (k : ℕ) → p ≤ k → R k → mills_for m k ≡ []
      from R none k low r =
          ⊎_elim (λ (here : p ≡ k). ap (mills_for m) (sym here) ∙ is) (λ (there : p ≡ k → ⊥). none k (omega arith) r) (cases_eq p k)

  pub next_entry_lem : (p n : ℕ) → p + n ≡ 256 → NoneLeft m p n ⊎ NextIs m p n
  next_entry_lem p zero e = inl (none_left p 0 e (λ k low high. absurd (omega arith)))
  next_entry_lem p (suc n) e = first_or_later p n (mills_for m p) e refl (next_entry_lem (p + 1) n (omega arith))
