use Rattle.std.proofs.Common.{◌≡◌}
use Rattle.console.specs.States.{state_of, below}
use Rattle.console.proofs.ExchangeSteps.{Exchanging}
use Rattle.console.proofs.runs.answer_each.Given as goal

abbrev pub invariant-loop-exchange : goal.invariant-loop-exchange
invariant-loop-exchange g l =
    (below l.console ≡ below l.initial.console)
    × Exchanging (g.S.Source.meaning (below l.initial.console)) l.initial.exchanges l.exchange-index (state_of l.console) l.exchanges
