-- A sheet: a frame with the count of mills, then program frames, then the end frame. What it means, or its first fault.
use Rattle.std.specs.Prelude.{ℕ, suc, Bool, true, cond, ◌&&◌, List, [], ◌∷◌, length, drop, Some, None, Ok, Err, Option, Result, ◌==◌, nat_le, nat_lt, slice_index}
use Rattle.sets.specs.Sets.{member}
use Rattle.vocabulary.specs.declared.refusal.Refusal.{Refusal}
use Rattle.vocabulary.specs.declared.refusal.Refusal.TheVariants.{BadLine, NotDue, WrongValue}
use Rattle.capability.specs.Meaning.{Meaning, nothing}
use Rattle.sheet.specs.Lines.{Lines, over, open_ended, line, lines_of}
use Rattle.sheet.specs.Frames.{Frame, frame_in}

-- a program and the mills that are able for it
pub record Entry : Type 0 where
  pub program : ℕ
  pub mills : List ℕ

-- the three kinds of frames in a sheet
pub data Item : Type 0 where
  -- 01: the count of mills
  count : ℕ → Item
  -- 02: a program with its mills
  entry : Entry → Item
  -- 0F: the end
  end : Item

-- what a frame is in a sheet, by its kind and the length of its payload
abbrev pub item_of : Frame → Option Item
item_of f =
    cond (f.kind == 1 && length f.payload == 1) (Some (count (slice_index f.payload 0)))
    (cond (f.kind == 2 && (nat_le 2 (length f.payload) && nat_le (length f.payload) 65)) (Some (entry (record { program = slice_index f.payload 0; mills = drop 1 f.payload })))
    (cond (f.kind == 15 && length f.payload == 0) (Some end) None))

-- go on with what was read, or hand on the fault
abbrev pub and_then : {A B : Type 0} → Result A Refusal → (A → Result B Refusal) → Result B Refusal
and_then (Ok a) f = f a
and_then (Err e) f = Err e

-- what the frame on the first line is
abbrev pub first_item : ℕ → Lines → Result (Option Item) Refusal
first_item number over = Err (NotDue number)
first_item number (open_ended cs) = Err (BadLine number)
first_item number (line cs rest) = and_then (frame_in number cs) (λ f. Ok (item_of f))

-- numbers from `floor` on and below `bound`, strictly rising
abbrev pub rising : ℕ → ℕ → List ℕ → Bool
rising floor bound [] = true
rising floor bound (x ∷ xs) = nat_le floor x && (nat_lt x bound && rising (suc x) bound xs)

-- the count of mills, 1 to 64, which is due first
abbrev pub count_due : ℕ → Option Item → Result ℕ Refusal
count_due number (Some (count n)) = cond (nat_le 1 n && nat_le n 64) (Ok n) (Err (WrongValue number))
count_due number (Some (entry e)) = Err (NotDue number)
count_due number (Some end) = Err (NotDue number)
count_due number None = Err (NotDue number)

-- after that a program from `floor` on with mills below `mills`, or the end
abbrev pub entry_due : ℕ → ℕ → ℕ → Option Item → Result (Option Entry) Refusal
entry_due mills floor number (Some (count n)) = Err (NotDue number)
entry_due mills floor number (Some (entry e)) = cond (nat_le floor e.program && rising 0 mills e.mills) (Ok (Some e)) (Err (WrongValue number))
entry_due mills floor number (Some end) = Ok None
entry_due mills floor number None = Err (NotDue number)

-- which mills are able for which program
abbrev pub Able : Type 0
Able = ℕ → ℕ → Bool

-- one program's mills, beside those of the others
abbrev pub listing : Entry → Able → Able
listing e others p m = cond (p == e.program) (member m e.mills) (others p m)

-- nothing may follow the end frame: the fault stands on the next line
abbrev pub at_end : ℕ → Lines → Result Able Refusal
at_end number over = Ok nothing.able
at_end number (open_ended cs) = Err (NotDue (suc number))
at_end number (line cs rest) = Err (NotDue (suc number))

-- one entry and then more of them, or the end
abbrev pub going_on : (Entry → Result Able Refusal) → Result Able Refusal → Option Entry → Result Able Refusal
going_on more ending (Some e) = and_then (more e) (λ others. Ok (listing e others))
going_on more ending None = ending

-- what the lines list from the line of this number on
abbrev pub entries_in : ℕ → ℕ → ℕ → Lines → Result Able Refusal
entries_in mills floor number over = Err (NotDue number)
entries_in mills floor number (open_ended cs) = Err (BadLine number)
entries_in mills floor number (line cs rest) =
    and_then (frame_in number cs) (λ f. and_then (entry_due mills floor number (item_of f))
    (going_on (λ e. entries_in mills (suc e.program) (suc number) rest) (at_end number rest)))

-- a whole sheet of lines
abbrev pub sheet_in : Lines → Result Meaning Refusal
sheet_in over = Err (NotDue 1)
sheet_in (open_ended cs) = Err (BadLine 1)
sheet_in (line cs rest) =
    and_then (frame_in 1 cs) (λ f. and_then (count_due 1 (item_of f))
    (λ mills. and_then (entries_in mills 0 2 rest) (λ able. Ok (record { mills = mills; able = able }))))

-- the meaning of a text, or the refusal of its first fault
abbrev pub sheet_of : List ℕ → Result Meaning Refusal
sheet_of text = sheet_in (lines_of text)

-- the meaning of a text that may be no lawful sheet: such a text means no mill and no pair
abbrev pub meaning_of : Result Meaning Refusal → Meaning
meaning_of (Ok meaning) = meaning
meaning_of (Err e) = nothing
