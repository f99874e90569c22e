-- Entries of a move list that no call has written.
use Rattle.std.specs.Prelude.{◌≡◌, List, length}
use Rattle.std.specs.List.{AllWithin}
use Rattle.board.specs.declared.moves.Move.{Move}

-- the record of a ticket and of mills that do not exist
abbrev pub marker : Move
marker = record { ticket = record { 0 = 65535 }; from = record { 0 = 255 }; to = record { 0 = 254 } }

-- each entry is still the marker
abbrev pub Untouched : List Move → Type 0
Untouched entries = AllWithin (λ entry. entry ≡ marker) entries 0 (length entries)
