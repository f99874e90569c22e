use Rattle.std.proofs.Common.{rules, tests}
use Rattle.board.proofs.CauseLaws.{strands_seated}
use Rattle.board.proofs.refusals.is_stranded.Goals as goal

pub returns : goal.returns
returns c = strands_seated c.args.table.now c.args.mill.0 c.args.ticket.0 c.seat.result c.is_some_and.result c.seat.ensures c.is_some_and.ensures (λ s q. search (rules, tests))
