use Rattle.sheet.proofs.LineSteps.{no_line, split_at}
use Rattle.sheet.proofs.line.split_line.Goals as goal

pub returns-in_err-end : goal.returns-in_err-end
returns-in_err-end c = rw c.from_residual.ensures (λ i. no_line i c.args.text.now c.in_err-end.ensures)

pub returns : goal.returns
returns c = split_at c.args.text.now c.in_ok-end.end c.in_ok-end.ensures
