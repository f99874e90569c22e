-- The least member comes before the others, and an empty set has no members.
use Rattle.std.proofs.Common.{refl}
use Rattle.sets.specs.Sets.{has}
use Rattle.sets.proofs.Rising.{numbers-none, numbers_first}
use Rattle.sets.proofs.number_set.NumberSet.pop_first.Goals as goal

pub returns : goal.returns
returns c =
    let least = c.in_ok-number.ensures in
    numbers_first (has c.args.self.now) (has c.remove.new.self) c.in_ok-number.number 64 least.0 least.1 least.2 c.remove.ensures

pub returns-in_err-number : goal.returns-in_err-number
returns-in_err-number c = rw c.from_residual.ensures (numbers-none (has c.args.self.now) 64 (λ k _. c.in_err-number.ensures k), refl)
