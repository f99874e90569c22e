-- The entries that a table holds, in the order in which they came.
use Rattle.std.specs.Prelude.{List}
use Rattle.arrayvec.specs.ArrayVec.{ArrayVec}

abbrev pub held : {T : Type 0} → ArrayVec T → List T
held table = table.items
