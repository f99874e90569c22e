-- What an accepted call does to a table.
use Rattle.std.specs.Prelude.{◌≡◌, Option}
use Rattle.vocabulary.specs.declared.numbers.Mill.{Mill}
use Rattle.table.specs.Held.{meant, tally_of}
use Rattle.table.specs.declared.table.Table.{Table}
use Rattle.search.specs.Rules.{EvenIn}
use Rattle.board.specs.Rulings.{Ruling}
use Rattle.board.specs.declared.call.Call.{Call}

pub record Completed (before : Table) (call : Call) (told : Option Mill) (after : Table) : Type 0 where
  pub meaning : meant after ≡ meant before
  pub rule : Ruling (meant before) call (tally_of before) told (tally_of after)
  pub even : EvenIn (meant before) (tally_of before) → EvenIn (meant after) (tally_of after)
