use Rattle.table.specs.Held.{meant, tally_of}
use Rattle.std.proofs.Common.{length}
use Rattle.board.proofs.Performing.{records_fit, performed}
use Rattle.board.proofs.perform.perform.Goals as goal

pub write_records-count-requires : goal.write_records-count-requires
write_records-count-requires c =
    records_fit (meant c.args.table.now) (tally_of c.args.table.now) (tally_of c.carry_out-told.new.table) (length c.args.moves.now) c.args.call c.in_ok-check_call.ensures

pub returns-clause-outcome : goal.returns-clause-outcome
returns-clause-outcome c =
    performed c.args.table.now c.carry_out-told.new.table c.args.call c.carry_out-told.result c.args.moves.now c.write_records-count.new.list
    c.write_records-count.result c.answer_of.result c.in_ok-check_call.ensures c.carry_out-told.ensures c.write_records-count.ensures.written
    c.write_records-count.ensures.count c.answer_of.ensures.told c.answer_of.ensures.count
