-- What a console holds.
use Rattle.std.specs.Prelude.{List, [], Some, None, Option}
use Rattle.capability.specs.Meaning.{Meaning}
use Rattle.layers.specs.Aliases.{cutting_as}
use Rattle.layers.specs.Held.{held}
use Rattle.layers.specs.Strikes.{without}
use Rattle.layers.specs.declared.aliases.Entry.{Entry}
use Rattle.layers.specs.declared.strikes.Pair.{Pair}
use Rattle.table.specs.Tally.{Tally}
use Rattle.board.specs.Boards.{meant_by, tally_on}
use Rattle.console.specs.declared.console.Console.{Console}
use Rattle.console.specs.declared.console.Console.TheVariants.{Setup, Open}

-- a board that is open: what its source meant at the opening, and its tally
pub record Opened : Type 0 where
  pub meaning : Meaning
  pub tally : Tally

-- the pairs that are struck, the programs that are cut as others, and the board once it is open
pub record State : Type 0 where
  pub strikes : List Pair
  pub aliases : List Entry
  pub board : Option Opened

-- a console that nothing was asked of
abbrev pub fresh : State
fresh = record { strikes = []; aliases = []; board = None }

-- what strikes over aliases mean over a source of this meaning
abbrev pub pile_meaning : Meaning → List Pair → List Entry → Meaning
pile_meaning below strikes aliases = without strikes (cutting_as aliases below)

abbrev pub state_of : {S : Type 0} → Console S → State
state_of (Setup pile) = record { strikes = held pile.table; aliases = held pile.source.table; board = None }
state_of (Open board) = record { strikes = held board.source.table; aliases = held board.source.source.table; board = Some (record { meaning = meant_by board; tally = tally_on board }) }

-- the source at the bottom
abbrev pub below : {S : Type 0} → Console S → S
below (Setup pile) = pile.source.source
below (Open board) = board.source.source.source
