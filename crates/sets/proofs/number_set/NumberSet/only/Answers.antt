-- One bit is a power of two.
use Rattle.std.proofs.Common.{◌&&◌, eqb, sym, ap, ◌∙◌}
use Rattle.std.proofs.lemmas.Nat.{one_shl}
use Rattle.std.proofs.lemmas.Bool.{lt-ltb}
use Rattle.sets.specs.Sets.{holds}
use Rattle.std.proofs.Math.Bool.{and-true}
use Rattle.sets.proofs.Holds.{holds_one_bit}
use Rattle.sets.proofs.number_set.NumberSet.only.Goals as goal

pub returns-then-number-lt64 : goal.returns-then-number-lt64
returns-then-number-lt64 c k =
    let n = c.args.number in
    ap (λ bits. holds bits k) (one_shl n 64 c.if-number-lt64.true) ∙ holds_one_bit n k ∙ sym (ap (λ t. eqb k n && t) (lt-ltb n 64 c.if-number-lt64.true) ∙ and-true (eqb k n))
