-- What a sheet reader has still to read, and its steps.
use Rattle.std.specs.Prelude.{◌≡◌, ℕ, suc, ◌<◌, ◌≤◌, List, length, Ok, Result}
use Rattle.vocabulary.specs.declared.refusal.Refusal.{Refusal}
use Rattle.sheet.specs.Lines.{lines_of}
use Rattle.sheet.specs.Sheets.{Entry, Able, sheet_of, entries_in, and_then, listing}
use Rattle.sheet.specs.declared.reader.SheetReader.{SheetReader}

-- what the text that is left lists
abbrev pub ahead : SheetReader → Result Able Refusal
ahead reader = entries_in reader.mills reader.floor reader.line (lines_of reader.rest.now)

-- the text is a sheet of so many mills as far as its first line goes, and the reader is behind that line
pub record Opened (text : List ℕ) (reader : SheetReader) : Type 0 where
  pub some : 1 ≤ reader.mills
  pub few : reader.mills ≤ 64
  pub first : reader.floor ≡ 0
  pub second_line : reader.line ≡ 2
  pub reads : sheet_of text ≡ and_then (ahead reader) (λ able. Ok (record { mills = reader.mills; able = able }))

-- the text went on with this entry, of a program from `floor` on, and the reader is behind it
pub record Listed (before : SheetReader) (e : Entry) (after : SheetReader) : Type 0 where
  pub rises : before.floor ≤ e.program
  pub mills : after.mills ≡ before.mills
  pub floor : after.floor ≡ suc e.program
  pub line : after.line ≡ suc before.line
  pub reads : ahead before ≡ and_then (ahead after) (λ others. Ok (listing e others))
  pub shorter : length after.rest.now < length before.rest.now
