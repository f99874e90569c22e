-- The bits below a count: a power of two less one, or all ones.
use Rattle.std.proofs.Common.{◌≡◌, ◌-◌, min, ltb, ap, ◌∙◌, arith}
use Rattle.std.proofs.lemmas.Nat.{one_shl}
use Rattle.sets.specs.Sets.{holds}
use Rattle.sets.proofs.Holds.{holds-below}
use Rattle.sets.proofs.number_set.NumberSet.below.Goals as goal

pub returns-then-count-lt64 : goal.returns-then-count-lt64
returns-then-count-lt64 c k =
    let all : c.args.count ≡ min c.args.count 64 = omega arith in
    ap (λ bit. holds (bit - 1) k) (one_shl c.args.count 64 c.if-count-lt64.true) ∙ holds-below c.args.count k ∙ ap (λ n. ltb k n) all

pub returns-else-count-lt64 : goal.returns-else-count-lt64
returns-else-count-lt64 c k =
    let all : 64 ≡ min c.args.count 64 = omega arith in
    holds-below 64 k ∙ ap (λ n. ltb k n) all
