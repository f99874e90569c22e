use Rattle.std.proofs.Common.{◌+◌, ◌%◌, ◌∙◌, rules, tests, refl}
use Rattle.std.proofs.lemmas.Iterator.Consumers.{YieldsList-from_first, fold_from_yields_List}
use Rattle.sheet.specs.Content.{left}
use Rattle.sheet.specs.Digits.{bytes_of}
use Rattle.sheet.proofs.DigitSteps.{sum_wraps}
use Rattle.sheet.proofs.digits.byte_sum.Goals as goal

pub returns : goal.returns
returns c =
    let bs = bytes_of c.args.digits.now in
    fold_from_yields_List _ (λ total byte. (total + byte) % 256) 0 _ c.fold.ensures.ran (YieldsList-from_first (λ x. x) left bs refl) (λ a x b q k. search (rules, tests))
    ∙ sum_wraps 0 bs
