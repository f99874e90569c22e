use Rattle.std.proofs.Common.{ap, ◌∙◌}
use Rattle.std.specs.Result.{result_unwrap_or}
use Rattle.sheet.specs.Sheets.{sheet_of}
use Rattle.sheet.proofs.Canonical.{lawful_meaning}
use Rattle.sheet.proofs.ReaderSteps.{count_or_none}
use Rattle.sheet.proofs.source.SheetSource.new.Goals as goal

pub invariant_of-result : goal.invariant_of-result
invariant_of-result c = record {
  counted = c.unwrap_or.ensures ∙ ap (λ r. result_unwrap_or r 0) c.check.ensures ∙ count_or_none (sheet_of c.args.text.now);
  keeps_law = lawful_meaning c.args.text.now;
}
