-- The mills of a tool source, read back as the rows that they were made of.
use Rattle.std.specs.Prelude.{List, map}
use Rattle.tools.specs.declared.tools.MillRow.{MillRow}
use Rattle.tools.specs.declared.tools.ToolMill.{ToolMill}

-- the row of a checked mill
abbrev pub row_of : ToolMill → MillRow
row_of mill = record { tools = mill.magazine.tools.bits; travel = mill.travel }

abbrev pub rows_of : List ToolMill → List MillRow
rows_of mills = map row_of mills
