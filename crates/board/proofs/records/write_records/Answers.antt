use Rattle.std.proofs.Common.{arith}
use Rattle.board.proofs.RecordSteps.{written_none, written_few, written_same, written_room, written_more, written_count, written_all}
use Rattle.board.proofs.records.write_records.Goals as goal
use Rattle.board.proofs.records.write_records.Goals.{in-Some, in_default}

pub loop-number-init : goal.loop-number-init
loop-number-init c = written_none _ _ c.args.list.now

pub bounds-list-from : goal.bounds-list-from
bounds-list-from c =
    omega (
      arith,
      written_room _ _ _ _ _ _ c.loop-number.invariant c.seat.result c.seat-in-loop-number.result c.seat.ensures c.seat-in-loop-number.ensures
          c.requires c.loop-number-test.true c.in-Some.moved c.in-Some.ensures,
    )

pub overflow_add-count : goal.overflow_add-count
overflow_add-count c = omega (arith, written_few _ _ _ _ _ _ c.loop-number.invariant (omega arith))

pub loop-number-preserved : goal.loop-number-preserved
loop-number-preserved c =
    elim c.match-record_of.branch [
      | in-Some w ↦
          written_more _ _ _ _ _ _ c.loop-number.invariant c.seat.result c.seat-in-loop-number.result c.seat.ensures c.seat-in-loop-number.ensures
          c.requires c.loop-number-test.true w.in-Some.moved w.in-Some.ensures _ _ _ w.from.ensures w.count-is w.list-is
      | in_default w ↦
          written_same _ _ _ _ _ _ c.loop-number.invariant c.seat.result c.seat-in-loop-number.result c.seat.ensures c.seat-in-loop-number.ensures
          w.in_default.ensures _ _ w.count-is w.list-is
    ]

pub returns : goal.returns
returns c = record {
  written = written_all _ _ _ _ _ _ c.loop-number.invariant (omega arith);
  count = written_count _ _ _ _ _ _ c.loop-number.invariant (omega arith);
}
