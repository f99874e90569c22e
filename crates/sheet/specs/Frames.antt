-- A frame is a line of digits that writes a kind byte, a count byte, the payload and a check byte.
-- The count is the number of payload bytes, and all bytes together sum to a multiple of 256.
use Rattle.std.specs.Prelude.{ℕ, ◌-◌, ◌%◌, Bool, cond, ◌&&◌, List, [], ◌∷◌, ◌++◌, length, take, drop, Ok, Err, sum, Result, ◌==◌, nat_le, slice_index}
use Rattle.std.specs.List.{flat_map}
use Rattle.vocabulary.specs.declared.refusal.Refusal.{Refusal}
use Rattle.vocabulary.specs.declared.refusal.Refusal.TheVariants.{BadLine, WrongCount, WrongSum}
use Rattle.sheet.specs.Digits.{bytes_of, all_digits, digits_for}
use Rattle.sheet.specs.Lines.{Lines, over, open_ended, line}

pub record Frame : Type 0 where
  pub kind : ℕ
  pub payload : List ℕ

-- from 6 to 516 digits, an even number of them, and nothing else
abbrev pub well_formed : List ℕ → Bool
well_formed cs = all_digits cs && (length cs % 2 == 0 && (nat_le 6 (length cs) && nat_le (length cs) 516))

-- the frame whose bytes these are
abbrev pub framed : List ℕ → Frame
framed bs = record { kind = slice_index bs 0; payload = take (length bs - 3) (drop 2 bs) }

-- the frame that a line's bytes make, where count and sum are right
abbrev pub checked : ℕ → List ℕ → Result Frame Refusal
checked number bs =
    cond (slice_index bs 1 == length bs - 3) (cond (sum bs % 256 == 0) (Ok (framed bs)) (Err (WrongSum number))) (Err (WrongCount number))

-- the frame on the line of this number, or its first fault
abbrev pub frame_in : ℕ → List ℕ → Result Frame Refusal
frame_in number cs = cond (well_formed cs) (checked number (bytes_of cs)) (Err (BadLine number))

-- the frame on the first line of a text
abbrev pub first_frame : ℕ → Lines → Result Frame Refusal
first_frame number over = Err (BadLine number)
first_frame number (open_ended cs) = Err (BadLine number)
first_frame number (line cs rest) = frame_in number cs

-- the frame that a text of one line holds: whatever stands behind the line feed is a wrong character
abbrev pub only_frame : ℕ → Lines → Result Frame Refusal
only_frame number over = Err (BadLine number)
only_frame number (open_ended cs) = Err (BadLine number)
only_frame number (line cs over) = frame_in number cs
only_frame number (line cs (open_ended more)) = Err (BadLine number)
only_frame number (line cs (line more rest)) = Err (BadLine number)

-- what follows the first line
abbrev pub after_first : Lines → Lines
after_first over = over
after_first (open_ended cs) = over
after_first (line cs rest) = rest

-- the byte that brings a sum to a multiple of 256
abbrev pub check_for : List ℕ → ℕ
check_for bs = (256 - sum bs % 256) % 256

-- the bytes of a frame, without and with its check byte
abbrev pub head_bytes : Frame → List ℕ
head_bytes f = f.kind ∷ length f.payload ∷ f.payload

abbrev pub frame_bytes : Frame → List ℕ
frame_bytes f = head_bytes f ++ (check_for (head_bytes f) ∷ [])

-- the line that writes a frame, with its line feed
abbrev pub frame_text : Frame → List ℕ
frame_text f = flat_map digits_for (frame_bytes f) ++ (10 ∷ [])
