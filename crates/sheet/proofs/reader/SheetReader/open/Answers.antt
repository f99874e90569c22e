use Rattle.std.proofs.Common.{sym, refl}
use Rattle.std.proofs.lemmas.Result.{err_from_is_err_and}
use Rattle.sheet.proofs.ReaderSteps.{opening_fault, count_fault, sheet_opened}
use Rattle.sheet.proofs.reader.SheetReader.open.Goals as goal

pub returns-in_err-frame : goal.returns-in_err-frame
returns-in_err-frame c =
    let p = err_from_is_err_and c.from_residual.result c.from_residual.ensures.1 in
    rw (p.1, p.2) (opening_fault c.args.text.now _ c.in_err-frame.ensures)

pub returns-in_err-mills : goal.returns-in_err-mills
returns-in_err-mills c =
    let p = err_from_is_err_and c.from_residual-in_err-mills.result c.from_residual-in_err-mills.ensures.1 in
    rw (p.1, p.2)
    (count_fault c.args.text.now c.in_ok-frame.frame c.in_ok-frame.rest.now c.in_ok-frame.ensures _ (sym c.in_err-mills.ensures))

pub returns : goal.returns
returns c =
    sheet_opened c.args.text.now c.in_ok-frame.frame c.in_ok-frame.rest.now c.in_ok-frame.ensures _ refl refl refl (sym c.in_ok-mills.ensures)
