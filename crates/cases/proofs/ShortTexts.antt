-- The short texts, read.
use Rattle.std.proofs.Common.{refl}
use Rattle.cases.specs.Texts.{ShortSheets, EndLine}

pub short_sheets : ShortSheets
short_sheets = record { most = refl; none = refl; too_many = refl }

pub end_line : EndLine
end_line = record { sums = refl; reads = λ number. refl; ends = refl }
