use Rattle.sheet.specs.Lines.{lines_of}
use Rattle.sheet.proofs.OnlyLine.{only_none, only_checked}
use Rattle.sheet.proofs.line.whole_line.Goals as goal

pub returns-in_err-characters : goal.returns-in_err-characters
returns-in_err-characters c = rw c.from_residual.ensures (λ i. only_none i (lines_of c.args.text.now) (c.in_err-characters.ensures i))

pub returns : goal.returns
returns c =
    rw c.then_some.ensures
    (only_checked c.args.text.now c.in_ok-characters.characters c.in_ok-characters.rest.now c.in_ok-characters.ensures c.is_empty.result c.is_empty.ensures)
