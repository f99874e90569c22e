-- The one sheet that writes a meaning: the count of mills, a frame for each program that some mill can cut, and the end.
use Rattle.std.specs.Prelude.{ℕ, List, [], ◌∷◌, ◌++◌, filter}
use Rattle.std.specs.List.{range_with_len, flat_map}
use Rattle.capability.specs.Meaning.{Meaning}
use Rattle.sheet.specs.Frames.{frame_text}

-- the mills that are able for a program, rising
abbrev pub mills_for : Meaning → ℕ → List ℕ
mills_for meaning p = filter (meaning.able p) (range_with_len 0 meaning.mills)

-- the lines of one program: none where no mill is able
abbrev pub entry_text : ℕ → List ℕ → List ℕ
entry_text p [] = []
entry_text p (m ∷ ms) = frame_text (record { kind = 2; payload = p ∷ m ∷ ms })

abbrev pub count_text : ℕ → List ℕ
count_text mills = frame_text (record { kind = 1; payload = mills ∷ [] })

abbrev pub end_text : List ℕ
end_text = frame_text (record { kind = 15; payload = [] })

-- the lines of `n` programs from p on
abbrev pub entries_text : Meaning → ℕ → ℕ → List ℕ
entries_text meaning p n = flat_map (λ q. entry_text q (mills_for meaning q)) (range_with_len p n)

abbrev pub sheet_text : Meaning → List ℕ
sheet_text meaning = count_text meaning.mills ++ (entries_text meaning 0 256 ++ end_text)
