use Rattle.std.proofs.Common.{◌≡◌, ℕ, ◌&&◌, ltb}
use Rattle.sets.specs.Sets.{has}
use Rattle.capability.proofs.abilities.row_of.Given as goal

abbrev pub invariant-loop-mill : goal.invariant-loop-mill
invariant-loop-mill g l = (k : ℕ) → has l.row k ≡ (ltb k l.mill && (g.S.Source.meaning l.source).able l.program.0 k)
