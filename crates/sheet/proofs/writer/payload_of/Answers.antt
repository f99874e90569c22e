use Rattle.std.proofs.Common.{◌∷◌, length, ap, ◌∙◌, arith}
use Rattle.sets.specs.Sets.{remaining}
use Rattle.sheet.proofs.PayloadSteps.{mills_before, all_come}
use Rattle.sheet.proofs.writer.payload_of.Goals as goal

pub push-requires-in-loop-mill : goal.push-requires-in-loop-mill
push-requires-in-loop-mill c =
    let from = ap remaining c.into_iter-mill-iterator.ensures.into_iter_gives ∙ c.iter-mill-items.ensures in
    let before =
    mills_before c.args.row c.into_iter-mill-iterator.result c.loop-mill.mill-iterator c.loop-mill.yielded from c.loop-mill.yielded_by
    c.in-Some.mill c.next.new.self c.in-Some.ensures.steps in
    omega (arith, ap length c.loop-mill.invariant)

pub returns : goal.returns
returns c =
    let from = ap remaining c.into_iter-mill-iterator.ensures.into_iter_gives ∙ c.iter-mill-items.ensures in
    c.loop-mill.invariant
    ∙ ap (λ mills. c.args.program.0 ∷ mills) (all_come c.args.row c.into_iter-mill-iterator.result c.loop-mill.mill-iterator c.loop-mill.yielded from c.loop-mill.yielded_by c.in-None.ensures.steps.0)
