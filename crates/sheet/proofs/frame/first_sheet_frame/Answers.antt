use Rattle.std.proofs.Common.{sym, ap}
use Rattle.std.proofs.lemmas.Result.{err_from_is_err_and}
use Rattle.sheet.specs.Content.{known}
use Rattle.sheet.specs.Sheets.{and_then}
use Rattle.sheet.proofs.ItemSteps.{item_fault}
use Rattle.sheet.proofs.frame.first_sheet_frame.Goals as goal

pub returns-in_err-raw : goal.returns-in_err-raw
returns-in_err-raw c =
    let p = err_from_is_err_and c.from_residual.result c.from_residual.ensures.1 in
    rw (p.1, p.2) (ap (λ r. and_then r (known c.args.line)) (item_fault c.args.line c.args.text.now _ (sym c.if-is_empty.ensures) c.in_err-raw.ensures))
