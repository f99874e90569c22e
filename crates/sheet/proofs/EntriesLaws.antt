-- The lines of programs one after the other: where none has a mill, and where the next one has.
use Rattle.std.proofs.Common.{◌≡◌, ℕ, zero, suc, ◌+◌, ◌<◌, ◌≤◌, List, [], ◌∷◌, ◌++◌, length, refl, ap, ◌∙◌, ⊎_elim, arith}
use Rattle.std.proofs.lemmas.Bool.{cases_eq}
use Rattle.capability.specs.Meaning.{Meaning}
use Rattle.sheet.specs.Frames.{frame_text}
use Rattle.sheet.specs.Written.{mills_for, entry_text, entries_text}

pub text_entry : (p : ℕ) (xs : List ℕ) → 1 ≤ length xs → entry_text p xs ≡ frame_text (record { kind = 2; payload = p ∷ xs })
text_entry p [] some = absurd (omega arith)
text_entry p (x ∷ xs) some = refl

pub entries_same : (m o : Meaning) (p n : ℕ) → ((k : ℕ) → p ≤ k → k < p + n → mills_for m k ≡ mills_for o k) → entries_text m p n ≡ entries_text o p n
entries_same m o p zero same = refl
entries_same m o p (suc n) same =
    let rest = entries_same m o (p + 1) n (λ k low high. same k (omega arith) (omega arith)) in
    λ i. entry_text p (same p (omega arith) (omega arith) i) ++ rest i

pub entries_none : (m : Meaning) (p n : ℕ) → ((k : ℕ) → p ≤ k → k < p + n → mills_for m k ≡ []) → entries_text m p n ≡ []
entries_none m p zero none = refl
entries_none m p (suc n) none =
    let rest = entries_none m (p + 1) n (λ k low high. none k (omega arith) (omega arith)) in
    λ i. entry_text p (none p (omega arith) (omega arith) i) ++ rest i

-- no program before q has a mill, and r programs come after q
pub entries_skip : (m : Meaning) (p n q r : ℕ) → p ≤ q → q + suc r ≡ p + n → ((k : ℕ) → p ≤ k → k < q → mills_for m k ≡ []) → entries_text m p n ≡ entry_text q (mills_for m q) ++ entries_text m (q + 1) r
entries_skip m p zero q r low e none = absurd (omega arith)
entries_skip m p (suc n) q r low e none =
    ⊎_elim
    (λ (here : p ≡ q).
    let left : n ≡ r = omega arith in
    λ i. entry_text (here i) (mills_for m (here i)) ++ entries_text m (here i + 1) (left i))
    (λ (later : p ≡ q → ⊥).
    ap (λ xs. entry_text p xs ++ entries_text m (p + 1) n) (none p (omega arith) (omega arith))
    ∙ entries_skip m (p + 1) n q r (omega arith) (omega arith) (λ k above below. none k (omega arith) below))
    (cases_eq p q)
