use Rattle.table.specs.Held.{tally_of}
use Rattle.board.proofs.RecordSteps.{Written}
use Rattle.board.proofs.records.write_records.Given as goal

abbrev pub invariant-loop-number : goal.invariant-loop-number
invariant-loop-number l = Written (tally_of l.before) (tally_of l.after) l.initial.list l.number l.count l.list
