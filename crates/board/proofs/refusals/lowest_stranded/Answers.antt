use Rattle.std.proofs.Common.{rules, tests}
use Rattle.std.proofs.lemmas.Iterator.{first_from_Range}
use Rattle.table.specs.Held.{meant, tally_of}
use Rattle.board.specs.Causes.{Strands}
use Rattle.board.proofs.CauseLaws.{lowest_since}
use Rattle.board.proofs.refusals.lowest_stranded.Goals as goal

pub returns : goal.returns
returns c =
    let table = c.args.table.now in
    lowest_since table c.args.mill.0 c.find.result c.map.result
    (first_from_Range _ _ _ c.find.result (λ k. Strands (meant table) (tally_of table) c.args.mill.0 k) (λ k. Strands (meant table) (tally_of table) c.args.mill.0 k → ⊥) c.find.ensures.ran
    (λ x q k. search (rules, tests)) (λ x q k. search (rules, tests)))
    (search rules)
