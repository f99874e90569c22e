use Rattle.std.proofs.Common.{ℕ, ◌+◌, Bool}
use Rattle.std.specs.Cmp.{IsStrictWeakOrder}
use Rattle.table.specs.Held.{tally_of}
use Rattle.search.specs.Firsts.{Computes}
use Rattle.search.specs.Visits.{load_in}
use Rattle.search.proofs.FirstSteps.{FirstTo}
use Rattle.search.proofs.choice.first_best.Given as goal

-- for whatever order the closure tells
abbrev pub invariant-loop-mill : goal.invariant-loop-mill
invariant-loop-mill g l =
    (order : ℕ → ℕ → Bool) → IsStrictWeakOrder order → Computes (λ x y told. goal.F-post g l.beats x y told) order
    → FirstTo order (load_in (tally_of l.table)) l.mills (l.mill-index + 1) l.best.0
