use Rattle.std.proofs.Common.{refl, rules}
use Rattle.capability.specs.Copied.{copied}
use Rattle.table.proofs.EditSteps.{empty_able, empty_below, empty_counted, empty_tally}
use Rattle.table.proofs.table.Table.new.Goals as goal

pub invariant_of-result : goal.invariant_of-result
invariant_of-result c =
    let meaning = copied c.args.abilities in
    let service = c.below.result in
    record {
      below = empty_below service 1024 c.args.abilities (λ m. search rules);
      able = empty_able service 1024 meaning;
      counted = empty_counted service 1024 meaning 64;
      whole = refl;
      complete = refl;
    }

pub returns-clause-tally : goal.returns-clause-tally
returns-clause-tally c = empty_tally c.below.result 1024 c.args.abilities (λ m. search rules)
