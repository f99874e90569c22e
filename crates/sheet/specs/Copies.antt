-- The one sheet of copied abilities, and the parts that it is written in.
use Rattle.std.specs.Prelude.{ℕ, List}
use Rattle.capability.specs.Copied.{copied}
use Rattle.capability.specs.declared.abilities.Abilities.{Abilities}
use Rattle.sheet.specs.Written.{mills_for, entry_text, entries_text, sheet_text}

-- the lines of one program
unfoldable pub entry_of : Abilities → ℕ → List ℕ
entry_of abilities p = entry_text p (mills_for (copied abilities) p)

-- the lines of the first n programs
unfoldable pub entries_of : Abilities → ℕ → List ℕ
entries_of abilities n = entries_text (copied abilities) 0 n

-- the whole sheet
unfoldable pub sheet_for : Abilities → List ℕ
sheet_for abilities = sheet_text (copied abilities)
