use Rattle.std.proofs.Common.{◌+◌, cond, sym, ap, ◌∙◌, add-zero, arith}
use Rattle.std.proofs.lemmas.Bool.{lt-ltb, le-ltb}
use Rattle.table.proofs.TableLaws.{load_few}
use Rattle.board.proofs.Reporting.{reporting_none, reporting_busy, reporting_more, reported}
use Rattle.board.proofs.Settling.{load_on}
use Rattle.board.proofs.questions.report_on.Goals as goal
use Rattle.board.proofs.questions.report_on.Goals.{then-load-gt0, else-load-gt0}

pub loop-mill-init : goal.loop-mill-init
loop-mill-init c = let none = c.default-report.ensures in reporting_none (load_on c.args.table.now) _ none.0 none.1.0 none.1.1

pub overflow_add-report-then-load-gt0 : goal.overflow_add-report-then-load-gt0
overflow_add-report-then-load-gt0 c = omega (arith, reporting_busy _ _ _ c.loop-mill.invariant, c.loop-mill-test.true)

pub loop-mill-preserved : goal.loop-mill-preserved
loop-mill-preserved c =
    let few = load_few c.args.table.now c.loop-mill.mill in
    let flow = ap (λ k. c.loop-mill.report.flow_time + k) c.cost.ensures in
    elim c.if-load-gt0.branch [
      | then-load-gt0 w ↦
          reporting_more _ _ _ c.loop-mill.invariant few c.load-load.result _ c.load-load.ensures (ap (λ r. r.highest_load) w.report-is ∙ c.max.ensures)
          (ap (λ r. r.busy_mills) w.report-is ∙ ap (λ b. c.loop-mill.report.busy_mills + cond b 1 0) (sym (lt-ltb 0 c.load-load.result w.if-load-gt0.true)))
          (ap (λ r. r.flow_time) w.report-is ∙ flow)
      | else-load-gt0 w ↦
          reporting_more _ _ _ c.loop-mill.invariant few c.load-load.result _ c.load-load.ensures (ap (λ r. r.highest_load) w.report-is ∙ c.max.ensures)
          (ap (λ r. r.busy_mills) w.report-is ∙ sym (add-zero c.loop-mill.report.busy_mills)
          ∙ ap (λ b. c.loop-mill.report.busy_mills + cond b 1 0) (sym (le-ltb 0 c.load-load.result w.if-load-gt0.false)))
          (ap (λ r. r.flow_time) w.report-is ∙ flow)
    ]

pub returns : goal.returns
returns c = reported c.args.table.now _ _ c.loop-mill.invariant (omega arith)
