use Rattle.std.proofs.Common.{◌≡◌, true, take}
use Rattle.std.specs.List.{list_all}
use Rattle.tools.specs.Tools.{few_tools}
use Rattle.tools.specs.Stored.{rows_of}
use Rattle.tools.proofs.tools.checked_mills.Given as goal

abbrev pub invariant-loop-row : goal.invariant-loop-row
invariant-loop-row l = record { stored : rows_of l.mills.items ≡ take l.row-index l.table; few : list_all few_tools (take l.row-index l.table) ≡ true }
