use Rattle.std.proofs.Common.{◌≡◌, ℕ, ◌||◌, eqb, ap, ◌∙◌, refl, arith, rules, tests}
use Rattle.std.specs.List.{list_any}
use Rattle.std.proofs.lemmas.Bool.Decides.{nat_tests}
use Rattle.std.proofs.lemmas.Iterator.Consumers.{YieldsList-from_first}
use Rattle.std.proofs.lemmas.Iterator.Search.{any_from_yields_List}
use Rattle.std.proofs.lemmas.List.Recursion.{same_from_clauses}
use Rattle.sets.specs.Sets.{member}
use Rattle.sheet.specs.Content.{left}
use Rattle.sheet.specs.Digits.{bytes_of}
use Rattle.sheet.proofs.source.lists.Goals as goal

eqb_swap : (a b : ℕ) → eqb a b ≡ eqb b a
eqb_swap a b = grind (arith, nat_tests)

pub returns : goal.returns
returns c =
    let bs = bytes_of c.args.digits.now in
    let number = c.args.number in
    any_from_yields_List (λ b. eqb b number) c.any.new.self _ _ c.any.ensures.ran (YieldsList-from_first (λ x. x) left bs refl) (λ x b q k. search (rules, tests))
    ∙ same_from_clauses (list_any (λ b. eqb b number)) (member number) (λ b found. eqb number b || found) refl (λ b bs. ap (λ t. t || list_any (λ b. eqb b number) bs) (eqb_swap b number)) (λ _ _. refl) bs
