-- A text area that something is written into, and what writing a sheet does to one.
use Rattle.std.specs.Prelude.{◌≡◌, ℕ, ◌+◌, ◌≤◌, cond, List, ◌++◌, length, take, drop, Some, None, Ok, Option, ◌==◌, nat_lt}
use Rattle.vocabulary.specs.declared.refusal.Refusal.{Refusal}
use Rattle.vocabulary.specs.declared.refusal.Refusal.TheVariants.{ShortArea, NoMills}
use Rattle.capability.specs.Meaning.{Meaning}
use Rattle.sheet.specs.Sheets.{sheet_of}
use Rattle.sheet.specs.Written.{sheet_text}
use Rattle.sheet.specs.declared.frame_writer.FrameWriter.{FrameWriter}

-- an area after a text was written over it from a place on
unfoldable pub put : ℕ → List ℕ → List ℕ → List ℕ
put place text area = take place area ++ (text ++ drop (place + length text) area)

-- so many characters fit behind the place that a writer is at
abbrev pub HasRoom : ℕ → FrameWriter → Type 0
HasRoom n writer = writer.at + n ≤ length writer.area.now

-- a text was written where a writer was, and nothing else; the writer is behind it, in the same area
pub record Appends (added : List ℕ) (before after : FrameWriter) : Type 0 where
  pub behind : after.at ≡ before.at + length added
  pub inside : after.at ≤ length after.area.now
  pub text : after.area.now ≡ put before.at added before.area.now
  pub same_length : length after.area.now ≡ length before.area.now
  pub same_area : after.area.ghost_name ≡ before.area.ghost_name

-- why a sheet of this meaning is not written into an area of this length: it has no mills, or the area is too short
abbrev pub unwritten : Meaning → ℕ → Option Refusal
unwritten meaning room = cond (meaning.mills == 0) (Some NoMills) (cond (nat_lt room (length (sheet_text meaning))) (Some (ShortArea (length (sheet_text meaning)))) None)

-- an area after a sheet was written to its front
pub record Wrote (meaning : Meaning) (before : List ℕ) (long : ℕ) (after : List ℕ) : Type 0 where
  pub length_is : long ≡ length (sheet_text meaning)
  pub short : long ≤ 35088
  pub text : after ≡ sheet_text meaning ++ drop long before
  pub reads_back : sheet_of (take long after) ≡ Ok meaning
