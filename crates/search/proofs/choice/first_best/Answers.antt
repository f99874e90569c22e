use Rattle.std.proofs.Common.{◌+◌, ◌-◌, ◌<◌, length, sym, ap, subst, arith}
use Rattle.vocabulary.specs.declared.numbers.Mill.{Mill}
use Rattle.table.specs.Held.{tally_of}
use Rattle.search.specs.Visits.{load_in}
use Rattle.search.proofs.FirstSteps.{FirstTo, rest_length, rest_at, first_new, first_stays}
use Rattle.search.proofs.choice.first_best.Goals as goal
use Rattle.search.proofs.choice.first_best.Goals.{then-beats, else-beats}

pub loop-mill-preserved : goal.loop-mill-preserved
loop-mill-preserved g c order weak computes =
    let mills = c.args.mills.now in
    let index = c.loop-mill.mill-index in
    let low : index < length mills - 1 = omega (arith, c.loop-mill-test.true, rest_length mills) in
    let here = ap (λ m. m.0) (rest_at mills index low) in
    let told = computes _ _ _ c.beats.ensures in
    let next : Mill → Type 0 = λ mill. FirstTo order (load_in (tally_of c.args.table.now)) mills (index + 1 + 1) mill.0 in
    elim c.if-beats.branch [
      | then-beats w ↦ subst next (sym w.best-is) (first_new _ _ weak mills (c.loop-mill.invariant order weak computes) (omega arith) _ here (cc))
      | else-beats w ↦ subst next (sym w.best-is) (first_stays _ _ weak mills (c.loop-mill.invariant order weak computes) (omega arith) _ here (cc))
    ]
