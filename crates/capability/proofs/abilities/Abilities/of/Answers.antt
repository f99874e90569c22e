use Rattle.std.proofs.Common.{sym, subst}
use Rattle.capability.specs.Meaning.{Lawful}
use Rattle.capability.proofs.CopySteps.{rows_all}
use Rattle.capability.proofs.abilities.Abilities.of.Goals as goal

pub invariant_of-result : goal.invariant_of-result
invariant_of-result g c =
    let source = c.args.source.now in
    let law = g.met.S.Source.lawful source in
    let copied = rows_all (g.S.Source.meaning source) law c.mills-mills.result c.mills-mills.ensures c.loop-program.row-items c.loop-program.program c.loop-program.invariant c.loop-program-test.false in
    record { lawful = subst Lawful (sym copied) law }
