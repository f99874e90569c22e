use Rattle.std.proofs.Common.{◌≡◌, ◌+◌, sym, subst, arith}
use Rattle.sheet.specs.Area.{Appends}
use Rattle.sheet.specs.Copies.{entries_of}
use Rattle.sheet.proofs.AppendSteps.{nothing, both}
use Rattle.sheet.proofs.WriteSteps.{entries_start, entries_next, length_entries_next, entries_upto}
use Rattle.sheet.proofs.writer.put_entries.Goals as goal

pub loop-program-init : goal.loop-program-init
loop-program-init c =
    let frames = c.args.frames.now in
    subst (λ text. Appends text frames frames) (sym (entries_start c.args.abilities.now)) (nothing (omega arith))

pub put_entry-requires : goal.put_entry-requires
put_entry-requires c =
    let n = c.loop-program.program in
    omega (arith, length_entries_next c.args.abilities.now n, entries_upto c.args.abilities.now (n + 1) 256 (omega arith))

pub loop-program-preserved : goal.loop-program-preserved
loop-program-preserved c = both (sym (entries_next c.args.abilities.now c.loop-program.program)) c.loop-program.invariant c.put_entry.ensures

pub returns-2 : goal.returns-2
returns-2 c =
    let all : c.loop-program.program + 1 ≡ 256 = omega arith in
    subst (λ n. Appends (entries_of c.args.abilities.now n) c.args.frames.now c.put_entry.new.frames) all
    (both (sym (entries_next c.args.abilities.now c.loop-program.program)) c.loop-program.invariant c.put_entry.ensures)
