use Rattle.std.proofs.Common.{get_or, ◌∙◌, subst}
use Rattle.console.specs.Exchanges.{Exchanged}
use Rattle.console.specs.States.{state_of, below}
use Rattle.console.proofs.ExchangeSteps.{exchanging_more}
use Rattle.console.proofs.runs.answer_each.Goals as goal

pub loop-exchange-preserved : goal.loop-exchange-preserved
loop-exchange-preserved g c =
    let meaning = g.S.Source.meaning in
    let state = state_of c.loop-exchange.console in
    let after = state_of c.answer_exchange-console.result in
    let lent = get_or c.loop-exchange.exchanges c.loop-exchange.exchange-index c.exchange-item.result in (
      c.answer_exchange-console.ensures.below ∙ c.loop-exchange.invariant.0,
      exchanging_more (meaning (below c.args.console)) c.args.exchanges.now c.loop-exchange.exchange-index state c.loop-exchange.exchanges c.loop-exchange.invariant.1
          c.loop-exchange.auto.exchanges c.loop-exchange-test.true c.exchange-item.result c.answer_exchange-console.new.exchange after
          (subst (λ source. Exchanged (meaning source) state lent c.answer_exchange-console.new.exchange after) c.loop-exchange.invariant.0 c.answer_exchange-console.ensures.exchanged),
    )
