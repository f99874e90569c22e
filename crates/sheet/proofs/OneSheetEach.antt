-- Two lawful sheets mean the same exactly when they are the same bytes.
use Rattle.std.proofs.Common.{◌≡◌, ℕ, Bool, true, List, is_ok, Ok, Err, Decides, Result, sym, refl, ap, ◌∙◌, arith}
use Rattle.vocabulary.specs.declared.refusal.Refusal.{Refusal}
use Rattle.capability.specs.Meaning.{Meaning}
use Rattle.sheet.specs.Sheets.{sheet_of, meaning_of, and_then}
use Rattle.sheet.specs.Theorems.{OneSheetEach, Compared}
use Rattle.sheet.specs.Written.{sheet_text}
use Rattle.sheet.proofs.Canonical.{canonical}
use Rattle.sheet.proofs.EntrySteps.{ok_meaning}
use Rattle.sheet.proofs.OkLaws.{ok_inside}
use Rattle.sheet.proofs.ReaderSteps.{mills_in}

pub one_sheet_each_lem : OneSheetEach
one_sheet_each_lem a b m n p q = (λ e. canonical a m p ∙ ap sheet_text e ∙ sym (canonical b n q), λ e. ok_inside m n (sym p ∙ ap sheet_of e ∙ q))

-- what a check answered tells what the text is
pub checked_fault : (r : Result Meaning Refusal) (e : Refusal) → ◌≡◌ {A = Result ℕ Refusal} (Err e) (mills_in r) → r ≡ Err e
checked_fault (Ok m) e h = absurd (grind arith)
checked_fault (Err f) e h = let same : f ≡ e = cc in ap Err same

pub checked_good : (r : Result Meaning Refusal) (n : ℕ) → ◌≡◌ {A = Result ℕ Refusal} (Ok n) (mills_in r) → is_ok r ≡ true
checked_good (Ok m) n h = refl
checked_good (Err f) n h = absurd (grind arith)

module _ (left right : List ℕ) where
  pub left_fault : (e : Refusal) → sheet_of left ≡ Err e → and_then (sheet_of left) (λ _. sheet_of right) ≡ Err e
  left_fault e h = ap (λ r. and_then r (λ _. sheet_of right)) h

  module _ (good : is_ok (sheet_of left) ≡ true) where
    pub right_fault : (e : Refusal) → sheet_of right ≡ Err e → and_then (sheet_of left) (λ _. sheet_of right) ≡ Err e
    right_fault e h = ap (λ r. and_then r (λ _. sheet_of right)) (ok_meaning (sheet_of left) good) ∙ h

    pub compared : is_ok (sheet_of right) ≡ true → (same : Bool) → Decides same (left ≡ right) → Compared left right same
    compared also same decides =
        let p = ok_meaning (sheet_of left) good in
        let q = ok_meaning (sheet_of right) also in
        let both = one_sheet_each_lem left right (meaning_of (sheet_of left)) (meaning_of (sheet_of right)) p q in
        record {
          one = meaning_of (sheet_of left);
          other = meaning_of (sheet_of right);
          left_reads = p;
          right_reads = q;
          yes_same = λ t. both.1 (decides.0 t);
          same_yes = λ e. decides.1 (both.0 e);
        }
