use Rattle.std.proofs.Common.{subst}
use Rattle.table.specs.Held.{meant, tally_of}
use Rattle.table.proofs.TableLaws.{service_few}
use Rattle.board.specs.Causes.{Acceptable}
use Rattle.board.proofs.Accepting.{add_exists, add_away, add_some}
use Rattle.board.proofs.rules.carry_out.Goals as goal

pub place-requires : goal.place-requires
place-requires c =
    let table = c.args.table.now in
    let may = subst (Acceptable (meant table) (tally_of table)) c.in-Add.is c.requires in
    record {
      exists = add_exists (meant table) (tally_of table) (service_few table) c.in-Add.ticket c.in-Add.program may;
      away = add_away (meant table) (tally_of table) (service_few table) c.in-Add.ticket c.in-Add.program may;
      some = add_some (meant table) (tally_of table) (service_few table) c.in-Add.ticket c.in-Add.program may;
    }
