use Rattle.std.proofs.lemmas.Slice.Eq.{slice_eq-Decides}
use Rattle.std.proofs.lemmas.Result.{err_from_is_err_and}
use Rattle.sheet.specs.Sheets.{sheet_of}
use Rattle.sheet.proofs.OneSheetEach.{one_sheet_each_lem, checked_fault, checked_good, left_fault, right_fault, compared}
use Rattle.sheet.proofs.compare.same_meaning.Goals as goal
use Rattle.std.proofs.lemmas.Bool.Decides.{Decides-eqb}

pub returns-in_err-check : goal.returns-in_err-check
returns-in_err-check c =
    let p = err_from_is_err_and c.from_residual.result c.from_residual.ensures.1 in
    record {
      one_sheet_each = one_sheet_each_lem;
      cases = rw (p.1, p.2) (left_fault c.args.left.now c.args.right.now _ (checked_fault (sheet_of c.args.left.now) _ c.in_err-check.ensures));
    }

pub returns-in_err-check-2 : goal.returns-in_err-check-2
returns-in_err-check-2 c =
    let p = err_from_is_err_and c.from_residual-in_err-check-2.result c.from_residual-in_err-check-2.ensures.1 in
    record {
      one_sheet_each = one_sheet_each_lem;
      cases = rw (p.1, p.2) (right_fault c.args.left.now c.args.right.now (checked_good (sheet_of c.args.left.now) _ c.in_ok-check.ensures) _ (checked_fault (sheet_of c.args.right.now) _ c.in_err-check-2.ensures));
    }

pub returns : goal.returns
returns c =
    record {
      one_sheet_each = one_sheet_each_lem;
      cases = compared c.args.left.now c.args.right.now
          (checked_good (sheet_of c.args.left.now) _ c.in_ok-check.ensures)
          (checked_good (sheet_of c.args.right.now) _ c.in_ok-check-2.ensures)
          c.eq.result (slice_eq-Decides Decides-eqb _ _ _ c.eq.ensures);
    }
