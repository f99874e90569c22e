use Rattle.std.proofs.Common.{◌≤◌, length}
use Rattle.sheet.specs.Sheets.{sheet_of, meaning_of}
use Rattle.sheet.proofs.EntrySteps.{Ahead}
use Rattle.sheet.proofs.source.mills_of.Given as goal

abbrev pub invariant-loop-rest : goal.invariant-loop-rest
invariant-loop-rest l = (7 ≤ length l.rest) × Ahead (meaning_of (sheet_of l.text)) l.program.0 l.rest

abbrev pub decreases-loop-rest : goal.decreases-loop-rest
decreases-loop-rest l = length l.rest
