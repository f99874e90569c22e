use Rattle.std.proofs.Common.{◌≡◌, ℕ, length, refl, ◌∙◌, arith, rules, tests}
use Rattle.std.specs.List.{range_with_len}
use Rattle.std.proofs.lemmas.Iterator.{YieldsList-from_range, YieldsList-from_map}
use Rattle.std.proofs.lemmas.Iterator.Adapters.{fits_from_length, at_most_from_yields_List}
use Rattle.std.proofs.lemmas.Iterator.Consumers.{sum_by_from_yields_List}
use Rattle.sheet.specs.Copies.{entry_of, entries_of}
use Rattle.sheet.proofs.WriteSteps.{sum_entries, entries_short}
use Rattle.sheet.proofs.writer.entries_len.Goals as goal
use Rattle.sheet.proofs.writer.entries_len.Goals.{After-sum}

pub sum-requires-clause-fits : goal.sum-requires-clause-fits
sum-requires-clause-fits c =
    fits_from_length _ _ 256 _ (at_most_from_yields_List (YieldsList-from_range 0 256 256 c.map.ensures.source refl) (omega arith)) c.map.ensures.closure (omega arith)
    (λ x r q k. search (rules, tests))

sum_is : (c : After-sum) → c.sum.result ≡ length (entries_of c.args.abilities.now 256)
sum_is c =
    let f : ℕ → ℕ = λ q. length (entry_of c.args.abilities.now q) in
    sum_by_from_yields_List f (range_with_len 0 256) c.map.result c.sum.result c.sum.ensures.ran
    (YieldsList-from_map _ f (YieldsList-from_range 0 256 256 c.map.ensures.source refl) c.map.ensures.closure (λ x r q k. search (rules, tests)))
    ∙ sum_entries c.args.abilities.now 256

pub returns : goal.returns
returns c = let is = sum_is c in record { value = is; short = omega (arith, entries_short c.args.abilities.now 256) }
