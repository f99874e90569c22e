-- Short sheets and one line, as texts.
use Rattle.std.specs.Prelude.{◌≡◌, ℕ, [], Some, Ok, Err, codes, sum}
use Rattle.vocabulary.specs.declared.refusal.Refusal.TheVariants.{WrongValue}
use Rattle.capability.specs.Meaning.{nothing}
use Rattle.sheet.specs.Digits.{bytes_of}
use Rattle.sheet.specs.Frames.{frame_in}
use Rattle.sheet.specs.Sheets.{sheet_of, item_of, end}

-- a sheet of 64 mills is read; of 0 or of 65 mills, its first line has a wrong value
pub record ShortSheets : Type 0 where
  pub most : sheet_of (codes "010140BE\n0F00F1\n") ≡ Ok (record { mills = 64; able = nothing.able })
  pub none : sheet_of (codes "010100FE\n0F00F1\n") ≡ Err (WrongValue 1)
  pub too_many : sheet_of (codes "010141BD\n0F00F1\n") ≡ Err (WrongValue 1)

-- the bytes of the line 0F00F1 sum to 256, and on any line it is the end frame: kind 15, and no payload
pub record EndLine : Type 0 where
  pub sums : sum (bytes_of (codes "0F00F1")) ≡ 256
  pub reads : (number : ℕ) → frame_in number (codes "0F00F1") ≡ Ok (record { kind = 15; payload = [] })
  pub ends : item_of (record { kind = 15; payload = [] }) ≡ Some end
