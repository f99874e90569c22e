-- The tools that a magazine has.
use Rattle.std.specs.Prelude.{◌≡◌, ℕ, ◌≤◌, Bool, true, false, Decides, refl}
use Rattle.std.proofs.Common.{sym, ◌∙◌, ⊎_elim}
use Rattle.std.specs.List.{list_all, AllByRecursion}
use Rattle.std.proofs.ByRecursion.{Decides-by_and}
use Rattle.std.proofs.lemmas.Bool.{cases_lt, false≢true}
use Rattle.std.proofs.lemmas.Bool.Decides.{same_from_decides, Decides-like}
use Rattle.sets.specs.Sets.{numbers}
use Rattle.sets.proofs.Rising.{numbers_all, all_numbers}

-- whether one test passes what another does, of which nothing from 64 on passes
pub passes_all : (f g : ℕ → Bool) (r : Bool) → ((k : ℕ) → 64 ≤ k → f k ≡ false) → Decides r ((k : ℕ) → f k ≡ true → g k ≡ true) → r ≡ list_all g (numbers f 64)
passes_all f g r past d =
    same_from_decides r (list_all g (numbers f 64)) d
    (Decides-like (list_all g (numbers f 64)) each_number (λ h. all_numbers (λ k. g k ≡ true) f 64 (λ k l. h k))
    (Decides-by_and g (λ k. g k ≡ true) (list_all g) (λ k. ((λ e. e), (λ e. e))) refl (λ _ _. refl) (numbers f 64)))
  where
    each_number : AllByRecursion (λ k. g k ≡ true) (numbers f 64) → (k : ℕ) → f k ≡ true → g k ≡ true
    each_number h k e = ⊎_elim (λ l. numbers_all (λ n. g n ≡ true) f 64 h k l e) (λ le. absurd (false≢true (sym (past k le) ∙ e))) (cases_lt k 64)
