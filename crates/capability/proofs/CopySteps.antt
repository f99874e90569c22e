-- The rows that a copy of a meaning has made, and what they mean once they are all made.
use Rattle.std.proofs.Common.{◌≡◌, ℕ, ◌<◌, ◌≤◌, Bool, true, false, List, length, get_or, sym, refl, ap, ◌∙◌, ⊎_elim, arith}
use mathlib.Core.Path.{fun_ext}
use Rattle.std.proofs.lemmas.List.{get_or_past}
use Rattle.std.proofs.lemmas.Bool.{cases_lt}
use Rattle.sets.specs.Sets.{has}
use Rattle.sets.specs.declared.number_set.NumberSet.{NumberSet}
use Rattle.sets.proofs.Holds.{holds-zero}
use Rattle.capability.specs.Meaning.{Meaning, Lawful}
use Rattle.capability.specs.Rows.{none, meaning_in}

-- ---- the rows: those of the first programs are copied

abbrev pub Rows : Meaning → List NumberSet → ℕ → Type 0
Rows meaning rows program = (length rows ≡ 256) × ((p k : ℕ) → p < program → has (get_or rows p none) k ≡ meaning.able p k)

module _ (meaning : Meaning) (law : Lawful meaning) (mills : ℕ) (count : mills ≡ meaning.mills) (rows : List NumberSet) (program : ℕ) (so_far : Rows meaning rows program) where
  -- no program from 256 on has a mill
  past : (p k : ℕ) (b : Bool) → 256 ≤ p → meaning.able p k ≡ b → b ≡ false
  past p k true high able = absurd (omega (arith, law.program p k able))
  past p k false high able = refl

  pub rows_all : 256 ≤ program → meaning_in mills rows ≡ meaning
  rows_all all i = record { mills = count i; able = fun_ext (λ p. fun_ext (λ k. ⊎_elim (below p k) (above p k) (cases_lt p 256))) i }
    where
      below : (p k : ℕ) → p < 256 → has (get_or rows p none) k ≡ meaning.able p k
      below p k low = so_far.1 p k (omega arith)

      above : (p k : ℕ) → 256 ≤ p → has (get_or rows p none) k ≡ meaning.able p k
      above p k high = ap (λ s. has s k) (get_or_past rows p none (omega (arith, so_far.0))) ∙ holds-zero k ∙ sym (past p k (meaning.able p k) high refl)
