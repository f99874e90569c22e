use Rattle.sheet.specs.Area.{Appends}
use Rattle.sheet.specs.Copies.{entries_of}
use Rattle.sheet.proofs.writer.put_entries.Given as goal

abbrev pub invariant-loop-program : goal.invariant-loop-program
invariant-loop-program l = Appends (entries_of l.abilities l.program) l.initial.frames l.frames
