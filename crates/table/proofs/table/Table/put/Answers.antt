use Rattle.std.proofs.Common.{Some, ap, ◌∙◌, arith}
use Rattle.table.specs.Held.{tally_of}
use Rattle.table.proofs.EditSteps.{may_few, put_counted, reseated_able, reseated_whole, changed_complete}
use Rattle.table.proofs.TableLaws.{load_few}
use Rattle.table.proofs.table.Table.put.Goals as goal

pub overflow_add-self : goal.overflow_add-self
overflow_add-self c = omega (arith, c.args.self.now.counted c.from-2.result, load_few c.args.self.now c.from-2.result)

pub invariant_of-self : goal.invariant_of-self
invariant_of-self c =
    let table = c.args.self.now in
    let place = c.from.result in
    record {
      below = table.below;
      able = reseated_able table place (omega arith) (Some c.args.seat) c.requires.may;
      counted = put_counted table place (omega arith) (ap (tally_of table).seat c.from.ensures ∙ c.requires.away) c.args.seat c.from-2.result c.from-2.ensures (omega (arith, table.complete, may_few table c.args.seat c.requires.may));
      whole = reseated_whole table place (omega arith) _;
      complete = changed_complete table c.from-2.result _;
    }
