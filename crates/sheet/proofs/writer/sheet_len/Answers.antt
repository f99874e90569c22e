use Rattle.std.proofs.Common.{arith}
use Rattle.sheet.proofs.WriteSteps.{length_sheet}
use Rattle.sheet.proofs.writer.sheet_len.Goals as goal

pub returns-clause-value : goal.returns-clause-value
returns-clause-value c = omega (arith, length_sheet c.args.abilities.now)
