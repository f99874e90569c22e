use Rattle.std.proofs.Common.{true, sym, rules}
use Rattle.std.proofs.lemmas.Bool.{false≢true}
use Rattle.table.proofs.EditSteps.{served_able, served_below}
use Rattle.table.proofs.table.Table.open_mill.Goals as goal

pub invariant_of-self : goal.invariant_of-self
invariant_of-self c =
    let table = c.args.self.now in
    record {
      below = served_below table c.args.mill.0 true (λ _. c.requires.below) (λ e. absurd (false≢true (sym e))) _ (λ m. search rules);
      able = served_able table c.args.mill.0 true (λ _. c.requires.below) (λ e. absurd (false≢true (sym e))) _ (λ m. search rules);
      counted = table.counted;
      whole = table.whole;
      complete = table.complete;
    }
