use Rattle.std.proofs.Common.{Err, sym, ap, ◌∙◌, refl, add-one, arith}
use Rattle.std.proofs.lemmas.List.{nil_from_length}
use Rattle.std.proofs.lemmas.Result.{err_from_is_err_and}
use Rattle.std.proofs.lemmas.Bool.{eqb-true, eqb-false, cond-true, cond-false}
use Rattle.vocabulary.specs.declared.refusal.Refusal.TheVariants.{NotDue}
use Rattle.sheet.specs.Content.{listed}
use Rattle.sheet.specs.Lines.{lines_of}
use Rattle.sheet.specs.Sheets.{at_end}
use Rattle.sheet.proofs.ReaderSteps.{due_as, entry_fault, due_fault, entry_listed, at_end_lem, not_over}
use Rattle.sheet.proofs.reader.SheetReader.next_entry.Goals as goal

pub returns-in_err-frame : goal.returns-in_err-frame
returns-in_err-frame c =
    let p = err_from_is_err_and c.from_residual.result c.from_residual.ensures.1 in
    rw (p.1, p.2) (entry_fault c.args.self.now _ c.in_err-frame.ensures, refl)

pub returns-in-Program : goal.returns-in-Program
returns-in-Program c =
    let before = c.args.self.now in
    entry_listed before c.in_ok-frame.frame c.in_ok-frame.rest.now c.in_ok-frame.ensures (listed c.in-Program.entry) _
    (ap (due_as before) c.in-Program.is ∙ cond-true _ _ _ (sym c.is_due.ensures ∙ c.if-is_due.true))
    refl refl (omega arith) (add-one _)

pub returns-in-Program-2 : goal.returns-in-Program-2
returns-in-Program-2 c =
    let before = c.args.self.now in (
      due_fault before c.in_ok-frame.frame c.in_ok-frame.rest.now c.in_ok-frame.ensures _
          (ap (due_as before) c.in-Program.is ∙ cond-false _ _ _ (sym c.is_due.ensures ∙ c.if-is_due.false)),
      refl,
    )

pub returns-in-End : goal.returns-in-End
returns-in-End c =
    let before = c.args.self.now in
    let rest = c.in_ok-frame.rest.now in (
      at_end_lem before c.in_ok-frame.frame rest c.in_ok-frame.ensures (ap (due_as before) c.in-End.is)
          ∙ ap (λ t. at_end before.line (lines_of t)) (nil_from_length rest (eqb-true _ 0 (sym c.is_empty.ensures ∙ c.if-is_empty.true))),
      refl,
    )

pub returns-in-End-2 : goal.returns-in-End-2
returns-in-End-2 c =
    let before = c.args.self.now in
    let rest = c.in_ok-frame.rest.now in (
      at_end_lem before c.in_ok-frame.frame rest c.in_ok-frame.ensures (ap (due_as before) c.in-End-2.is)
          ∙ not_over before.line rest (eqb-false _ 0 (sym c.is_empty.ensures ∙ c.if-is_empty.false))
          ∙ ap (λ n. Err (NotDue n)) (sym (add-one before.line)),
      refl,
    )

pub returns-in-Mills : goal.returns-in-Mills
returns-in-Mills c =
    let before = c.args.self.now in
    (due_fault before c.in_ok-frame.frame c.in_ok-frame.rest.now c.in_ok-frame.ensures _ (ap (due_as before) c.in-Mills.is), refl)
