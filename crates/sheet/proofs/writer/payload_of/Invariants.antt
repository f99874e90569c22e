use Rattle.std.proofs.Common.{◌≡◌, ◌∷◌}
use Rattle.sheet.proofs.writer.payload_of.Given as goal

abbrev pub invariant-loop-mill : goal.invariant-loop-mill
invariant-loop-mill l = l.payload.items ≡ l.fn.program.0 ∷ l.yielded
