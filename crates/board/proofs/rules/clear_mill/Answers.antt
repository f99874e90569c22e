use Rattle.std.proofs.Common.{sym, ap, ◌∙◌}
use Rattle.table.specs.Held.{meant, tally_of}
use Rattle.board.proofs.Clearing.{clearing_off, clearing_stays}
use Rattle.board.proofs.rules.clear_mill.Goals as goal
use Rattle.board.proofs.rules.clear_mill.Goals.{then-stands_on, else-stands_on}

pub loop-number-preserved : goal.loop-number-preserved
loop-number-preserved c =
    elim c.if-stands_on.branch [
      | then-stands_on w ↦
          clearing_off _ _ _ _ c.loop-number.invariant _ (sym w.if-stands_on.ensures) (ap meant w.table-is ∙ w.take.ensures.meaning)
          (ap tally_of w.table-is ∙ w.take.ensures.tally)
      | else-stands_on w ↦ clearing_stays _ _ _ _ c.loop-number.invariant _ (sym w.if-stands_on.ensures) w.table-is
    ]
