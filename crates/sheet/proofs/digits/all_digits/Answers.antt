use Rattle.std.proofs.Common.{◌&&◌, is_some, ◌∙◌, refl, rules, tests}
use Rattle.std.specs.List.{list_all}
use Rattle.std.proofs.lemmas.Iterator.{YieldsList-from_slice}
use Rattle.std.proofs.lemmas.Iterator.Search.{all_from_yields_List}
use Rattle.std.proofs.lemmas.List.Recursion.{same_from_clauses}
use Rattle.sheet.specs.Digits.{digit_of, all_digits}
use Rattle.sheet.proofs.digits.all_digits.Goals as goal

pub returns : goal.returns
returns c =
    let cs = c.args.characters.now in
    all_from_yields_List (λ k. is_some (digit_of k)) _ _ _ c.all.ensures.ran (YieldsList-from_slice cs cc) (λ x b q k. search (rules, tests))
    ∙ same_from_clauses (list_all (λ k. is_some (digit_of k))) all_digits (λ k all. is_some (digit_of k) && all) refl (λ _ _. refl) (λ _ _. refl) cs
