use Rattle.std.proofs.Common.{◌≡◌, drop}
use Rattle.tools.specs.Tools.{first_fault}
use Rattle.tools.proofs.tools.check_mills.Given as goal

abbrev pub invariant-loop-row : goal.invariant-loop-row
invariant-loop-row l = first_fault (drop l.row-index l.rows) ≡ first_fault l.rows
