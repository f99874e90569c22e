use Rattle.std.proofs.Common.{◌+◌, ◌%◌, ◌∙◌, rules, tests}
use Rattle.std.proofs.lemmas.Iterator.{YieldsList-from_slice}
use Rattle.std.proofs.lemmas.Iterator.Consumers.{fold_from_yields_List}
use Rattle.sheet.proofs.FrameWriteSteps.{fold_sum}
use Rattle.sheet.proofs.frame_writer.sum_of.Goals as goal

pub returns : goal.returns
returns c =
    fold_from_yields_List _ (λ total byte. (total + byte) % 256) 0 _ c.fold.ensures.ran (YieldsList-from_slice c.args.bytes.now cc) (λ a x b q k. search (rules, tests))
    ∙ fold_sum c.args.bytes.now
