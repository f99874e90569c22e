use Rattle.table.specs.Held.{meant, tally_of}
use Rattle.board.proofs.CauseLaws.{judged_by_list}
use Rattle.board.proofs.refusals.check_call.Goals as goal

pub returns : goal.returns
returns c = judged_by_list (meant c.args.table.now) (tally_of c.args.table.now) c.args.call c.in_ok-check_arguments.ensures c.args.room c.check_room.result c.check_room.ensures
