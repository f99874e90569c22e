use Rattle.std.proofs.Common.{◌≡◌, length}
use Rattle.sheet.specs.Reading.{ahead}
use Rattle.sheet.specs.Sheets.{sheet_of}
use Rattle.sheet.proofs.ReaderSteps.{mills_in, verdict}
use Rattle.sheet.proofs.reader.check.Given as goal

abbrev pub invariant-loop : goal.invariant-loop
invariant-loop l = verdict l.reader.mills (ahead l.reader) ≡ mills_in (sheet_of l.text)

abbrev pub decreases-loop : goal.decreases-loop
decreases-loop l = length l.reader.rest.now
