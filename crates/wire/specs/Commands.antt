-- The commands that lines hold: what a frame asks, by its kind and the length of its payload, or why it asks nothing.
use Rattle.std.specs.Prelude.{ℕ, ◌+◌, ◌*◌, Bool, cond, ◌&&◌, List, length, Ok, Err, Result, ◌==◌, slice_index}
use Rattle.vocabulary.specs.declared.numbers.Mill.{Mill}
use Rattle.vocabulary.specs.declared.numbers.Program.{Program}
use Rattle.vocabulary.specs.declared.numbers.Ticket.{Ticket}
use Rattle.vocabulary.specs.declared.refusal.Refusal.{Refusal}
use Rattle.vocabulary.specs.declared.refusal.Refusal.TheVariants.{NotDue}
use Rattle.sheet.specs.Lines.{lines_of}
use Rattle.sheet.specs.Frames.{Frame, only_frame}
use Rattle.sheet.specs.Sheets.{and_then}
use Rattle.board.specs.declared.call.Call.TheVariants.{Add, Done, Withdraw, Return}
use Rattle.wire.specs.Kinds.{code_of}
use Rattle.wire.specs.declared.kind.CommandKind.TheVariants as kind
use Rattle.wire.specs.declared.command.BoardCommand.{BoardCommand}
use Rattle.wire.specs.declared.command.BoardCommand.TheVariants.{Perform, Where, Report}
use Rattle.wire.specs.declared.command.SetupCommand.{SetupCommand}
use Rattle.wire.specs.declared.command.SetupCommand.TheVariants.{Strike, Alias, Board}

-- the number that two bytes write from this place on, the high byte first
abbrev pub word_at : List ℕ → ℕ → ℕ
word_at bytes place = slice_index bytes place * 256 + slice_index bytes (place + 1)

-- the ticket, the program and the mill that a payload has from a place on
abbrev pub ticket_at : ℕ → Frame → Ticket
ticket_at place f = record { 0 = word_at f.payload place }

abbrev pub program_at : ℕ → Frame → Program
program_at place f = record { 0 = slice_index f.payload place }

abbrev pub mill_at : ℕ → Frame → Mill
mill_at place f = record { 0 = slice_index f.payload place }

-- whether a frame is of this kind and has so many payload bytes
abbrev pub has : ℕ → ℕ → Frame → Bool
has code count f = f.kind == code && length f.payload == count

-- what a frame asks of a board
abbrev pub board_command_of : Frame → Result BoardCommand Refusal
board_command_of f =
    cond (has (code_of kind.Add) 3 f) (Ok (Perform (Add (ticket_at 0 f) (program_at 2 f))))
    (cond (has (code_of kind.Done) 2 f) (Ok (Perform (Done (ticket_at 0 f))))
    (cond (has (code_of kind.Withdraw) 1 f) (Ok (Perform (Withdraw (mill_at 0 f))))
    (cond (has (code_of kind.Return) 1 f) (Ok (Perform (Return (mill_at 0 f))))
    (cond (has (code_of kind.Where) 2 f) (Ok (Where (ticket_at 0 f)))
    (cond (has (code_of kind.Report) 0 f) (Ok Report) (Err (NotDue 0)))))))

-- the same, as a command while the board is not open
abbrev pub for_board : Result BoardCommand Refusal → Result SetupCommand Refusal
for_board asked = and_then asked (λ command. Ok (Board command))

-- what a frame asks while the board is not open: the entries of its tables besides
abbrev pub setup_command_of : Frame → Result SetupCommand Refusal
setup_command_of f =
    cond (has (code_of kind.Strike) 2 f) (Ok (Strike (program_at 0 f) (mill_at 1 f)))
    (cond (has (code_of kind.Alias) 2 f) (Ok (Alias (program_at 0 f) (program_at 1 f)))
    (for_board (board_command_of f)))

-- the command to a board that a line holds; a fault of the line comes first, and all faults are at line 0
abbrev pub board_command_in : List ℕ → Result BoardCommand Refusal
board_command_in line = and_then (only_frame 0 (lines_of line)) board_command_of

-- the command that a line holds while the board is not open
abbrev pub setup_command_in : List ℕ → Result SetupCommand Refusal
setup_command_in line = and_then (only_frame 0 (lines_of line)) setup_command_of
