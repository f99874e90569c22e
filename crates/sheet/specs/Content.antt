-- What the readers' values stand for, as the definitions of frames and sheets have it.
use Rattle.std.specs.Prelude.{◌≡◌, ℕ, ◌<◌, ◌≤◌, List, length, Some, None, Ok, Err, Option, Result, ◌≢◌, slice_index, slice_index_or}
use Rattle.vocabulary.specs.declared.refusal.Refusal.{Refusal}
use Rattle.vocabulary.specs.declared.refusal.Refusal.TheVariants.{NotDue}
use Rattle.sheet.specs.Digits.{bytes_of}
use Rattle.sheet.specs.Lines.{line, lines_of}
use Rattle.sheet.specs.Frames.{Frame, first_frame, after_first}
use Rattle.std.specs.Option.{option_map}
use Rattle.sheet.specs.Sheets as sheets
use Rattle.sheet.specs.Sheets.{Item, first_item}
use Rattle.sheet.specs.declared.digits.Bytes.{Bytes}
use Rattle.sheet.specs.declared.line.RawFrame.{RawFrame}
use Rattle.sheet.specs.declared.frame.Entry.{Entry}
use Rattle.sheet.specs.declared.frame.SheetFrame.{SheetFrame}
use Rattle.sheet.specs.declared.frame.SheetFrame.TheVariants.{Mills, Program, End}

-- the bytes that an iterator over digits has still to give
abbrev pub left : Bytes → List ℕ
left iterator = bytes_of iterator.0.now

-- a frame whose payload is still digits
abbrev pub content : RawFrame → Frame
content raw = record { kind = raw.kind; payload = bytes_of raw.payload.now }

-- the text begins with a line of these characters, and this is the text behind its line feed
pub record Split (text characters rest : List ℕ) : Type 0 where
  pub line_is : lines_of text ≡ line characters (lines_of rest)
  pub shorter : length rest < length text

-- the text began with a line that holds this frame, and this is the text behind it
pub record Taken (number : ℕ) (text : List ℕ) (frame : Frame) (rest : List ℕ) : Type 0 where
  pub first : first_frame number (lines_of text) ≡ Ok frame
  pub after : lines_of rest ≡ after_first (lines_of text)
  pub shorter : length rest < length text

-- an entry whose mills are still digits
abbrev pub listed : Entry → sheets.Entry
listed e = record { program = e.program.0; mills = bytes_of e.mills.now }

abbrev pub item : SheetFrame → Item
item (Mills n) = sheets.count n
item (Program e) = sheets.entry (listed e)
item End = sheets.end

-- a frame of another kind, or of a wrong length for its kind, is not due
abbrev pub known : ℕ → Option Item → Result Item Refusal
known number (Some i) = Ok i
known number None = Err (NotDue number)

-- the same of a frame as a sheet has it
pub record Came (number : ℕ) (text : List ℕ) (frame : Option SheetFrame) (rest : List ℕ) : Type 0 where
  pub first : first_item number (lines_of text) ≡ Ok (option_map item frame)
  pub after : lines_of rest ≡ after_first (lines_of text)
  pub shorter : length rest < length text

-- the first line feed of a text stands at this place, behind at most 516 characters
pub record EndsAt (text : List ℕ) (place : ℕ) : Type 0 where
  pub inside : place < length text
  pub few : place ≤ 516
  pub feed : slice_index_or text place 0 ≡ 10
  pub none : (k : ℕ) → k < place → slice_index text k ≢ 10
