-- Aliases: the entry of a program looked up, one entry more, and another in its place.
use Rattle.std.specs.Prelude.{◌≡◌, ℕ, zero, suc, ◌<◌, true, false, cond, List, [], ◌∷◌, ◌++◌, length, Ok, Err, ◌==◌, slice_index_or, slice_set, refl}
use Rattle.std.proofs.Common.{sym, ap, ◌∙◌, zero-le, arith}
use Rattle.std.specs.List.{find, AllWithin, HoldsAt}
use Rattle.std.specs.Option.{option_map_or}
use Rattle.std.proofs.lemmas.Bool.{false≢true}
use Rattle.std.proofs.lemmas.Bool.Decides.{nat_tests}
use Rattle.std.proofs.lemmas.List.Folds.{list_any_at, list_any_none}
use Rattle.vocabulary.specs.declared.refusal.Refusal.{Refusal}
use Rattle.layers.specs.Tables.{added}
use Rattle.layers.specs.Aliases.{entry, of_program, aliased, alias_of, renamed, after_alias, Alias}
use Rattle.layers.specs.declared.aliases.Entry.{Entry}

-- ---- the entry of a program, looked up

pub found_alias : (p : ℕ) (entries : List Entry) → option_map_or (λ x. x.cut_as.0) (find (of_program p) entries) p ≡ alias_of entries p
found_alias p [] = refl
found_alias p (x ∷ xs) = grind (arith, nat_tests, found_alias p xs)

-- the first entry of the program stands at place i
renamed_at : (p q : ℕ) (entries : List Entry) (i : ℕ) (d : Entry) → i < length entries → of_program p (slice_index_or entries i d) ≡ true → ((k : ℕ) → k < i → of_program p (slice_index_or entries k d) ≡ false)
    → renamed p q entries ≡ slice_set entries i (entry p q)
renamed_at p q [] i d inside here before = absurd (omega arith)
renamed_at p q (x ∷ xs) zero d inside here before = grind arith
renamed_at p q (x ∷ xs) (suc i) d inside here before =
    let first = before 0 (omega arith) in
    let rest = renamed_at p q xs i d (omega arith) here (λ k l. before (suc k) (omega arith)) in
    grind arith

-- ---- one entry more, or another in its place

module _ (p q n : ℕ) where
  alias_over : (entries : List Entry) → aliased entries p ≡ true → alias_of (renamed p q entries) n ≡ cond (n == p) q (alias_of entries n)
  alias_over [] there = absurd (false≢true there)
  alias_over (x ∷ xs) there = grind (arith, nat_tests, alias_over xs)

  alias_behind : (entries : List Entry) → aliased entries p ≡ false → alias_of (entries ++ entry p q ∷ []) n ≡ cond (n == p) q (alias_of entries n)
  alias_behind [] out = grind (arith, nat_tests)
  alias_behind (x ∷ xs) out = grind (arith, nat_tests, alias_behind xs)

module _ (p q : ℕ) (before : List Entry) where
  pub alias_again : (i : ℕ) (after : List Entry) → i < length before → HoldsAt (λ x. of_program p x ≡ true) before i → AllWithin (λ x. of_program p x ≡ false) before 0 i → after ≡ slice_set before i (entry p q) → Alias p q before after
  alias_again i after inside here earlier put =
      let there : aliased before p ≡ true = list_any_at (of_program p) before i (entry p q) inside (here (entry p q)) in
      let same : after ≡ renamed p q before = put ∙ sym (renamed_at p q before i (entry p q) inside (here (entry p q)) (λ k l. earlier k (entry p q) zero-le l)) in
      record {
        table = grind arith;
        cuts = λ n. ap (λ l. alias_of l n) same ∙ alias_over p q n before there;
      }

  module _ (none : AllWithin (λ x. of_program p x ≡ false) before 0 (length before)) where
    out : aliased before p ≡ false
    out = list_any_none (of_program p) before (λ k d l. none k d zero-le l)

    pub alias_more : (after : List Entry) → added (entry p q) before ≡ Ok after → Alias p q before after
    alias_more after put =
        let behind : after ≡ before ++ entry p q ∷ [] = grind arith in
        record {
          table = let fresh = out in grind arith;
          cuts = λ n. ap (λ l. alias_of l n) behind ∙ alias_behind p q n before out;
        }

    pub alias_refused : (e : Refusal) → added (entry p q) before ≡ Err e → after_alias p q before ≡ Err e
    alias_refused e full = let fresh = out in grind arith
