use Rattle.std.proofs.Common.{◌≡◌, cond, sum_by, is_some, ◌∙◌, ◌^◌, arith, rules, tests}
use Rattle.std.proofs.iter.runs.Sources.{sums}
use Rattle.std.proofs.lemmas.Iterator.{YieldsList-from_slice}
use Rattle.std.proofs.lemmas.Iterator.Adapters.{fits_from_length, at_most_from_yields_List}
use Rattle.table.proofs.ScanSteps.{count_seats}
use Rattle.table.proofs.table.Table.standing.Goals as goal

pub sum-requires-clause-fits : goal.sum-requires-clause-fits
sum-requires-clause-fits c =
    let table = c.args.self.now in
    fits_from_length _ _ 1024 (2 ^ 16) (at_most_from_yields_List (YieldsList-from_slice table.seats cc) (omega (arith, table.whole))) c.map.ensures.closure (omega arith) (λ x r q k. search (rules, tests))

pub returns : goal.returns
returns c =
    let table = c.args.self.now in
    let counted : c.sum.result ≡ sum_by (λ seat. cond (is_some seat) 1 0) table.seats = search (rules, sums) in
    counted ∙ count_seats table
