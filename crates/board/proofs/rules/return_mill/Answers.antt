use Rattle.table.specs.Held.{meant, tally_of}
use Rattle.board.proofs.Accepting.{return_below}
use Rattle.board.proofs.Completing.{returned_few, returned_completed}
use Rattle.board.proofs.rules.return_mill.Goals as goal

pub open_mill-requires : goal.open_mill-requires
open_mill-requires c = record { below = return_below (meant c.args.table.now) (tally_of c.args.table.now) c.args.mill c.requires }

pub settle-requires : goal.settle-requires
settle-requires c = returned_few c.args.table.now c.open_mill.new.self c.args.mill c.open_mill.ensures.tally

pub returns : goal.returns
returns c =
    returned_completed c.args.table.now c.args.mill c.requires c.open_mill.new.self c.open_mill.ensures.meaning c.open_mill.ensures.tally
    c.settle.new.table c.settle.ensures.meaning c.settle.ensures.settled c.settle.ensures.even
