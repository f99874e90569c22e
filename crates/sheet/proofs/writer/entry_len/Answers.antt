use Rattle.std.proofs.Common.{sym, ◌∙◌, arith}
use Rattle.sheet.proofs.RowLaws.{length_none, length_some}
use Rattle.sheet.proofs.writer.entry_len.Goals as goal

pub returns-in-0-clause-value : goal.returns-in-0-clause-value
returns-in-0-clause-value c =
    sym (length_none c.args.abilities.now c.args.program.0 c.row.result c.row.ensures (sym c.count.ensures.value ∙ c.in-0.is))

pub returns-in_default-clause-value : goal.returns-in_default-clause-value
returns-in_default-clause-value c =
    let long = length_some c.args.abilities.now c.args.program.0 c.row.result c.row.ensures (λ none. omega arith) in
    omega arith
