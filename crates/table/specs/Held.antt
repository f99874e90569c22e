-- What a table holds.
use Rattle.capability.specs.Copied.{copied}
use Rattle.capability.specs.Meaning.{Meaning}
use Rattle.table.specs.declared.table.Table.{Table}
use Rattle.table.specs.Seats.{tally_from}
use Rattle.table.specs.Tally.{Tally}

-- what the source meant when the board was opened
abbrev pub meant : Table → Meaning
meant table = copied table.abilities

abbrev pub tally_of : Table → Tally
tally_of table = tally_from table.seats table.service
