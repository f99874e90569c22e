use Rattle.std.proofs.Common.{◌≡◌, drop}
use Rattle.layers.specs.Held.{held}
use Rattle.layers.specs.Aliases.{alias_of}
use Rattle.layers.proofs.aliases.Aliases.alias_of.Given as goal

abbrev pub invariant-loop-entry : goal.invariant-loop-entry
invariant-loop-entry g l = alias_of (held l.self.table) l.program.0 ≡ alias_of (drop l.entry-index (held l.self.table)) l.program.0
