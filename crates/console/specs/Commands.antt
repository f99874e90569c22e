-- What a command does, and what it is answered.
use Rattle.std.specs.Prelude.{◌≡◌, ℕ, List, Some, None, Ok, Err, Option, Result}
use Rattle.vocabulary.specs.declared.numbers.Ticket.{Ticket}
use Rattle.vocabulary.specs.declared.refusal.Refusal.{Refusal}
use Rattle.vocabulary.specs.declared.refusal.Refusal.TheVariants.{NotStanding}
use Rattle.capability.specs.Meaning.{Meaning}
use Rattle.layers.specs.Aliases.{after_alias}
use Rattle.layers.specs.Strikes.{after_strike}
use Rattle.layers.specs.declared.aliases.Entry.{Entry}
use Rattle.layers.specs.declared.strikes.Pair.{Pair}
use Rattle.table.specs.Tally.{Tally, placement, opening}
use Rattle.board.specs.Reports.{Reported}
use Rattle.board.specs.Outcomes.{Outcome}
use Rattle.board.specs.declared.call.Answer.{Answer}
use Rattle.board.specs.declared.call.Call.{Call}
use Rattle.board.specs.declared.moves.Move.{Move}
use Rattle.board.specs.declared.report.Report as reports
use Rattle.wire.specs.Commands.{board_command_in, setup_command_in}
use Rattle.wire.specs.declared.command.BoardCommand.{BoardCommand}
use Rattle.wire.specs.declared.command.BoardCommand.TheVariants.{Perform, Where, Report}
use Rattle.wire.specs.declared.command.SetupCommand.{SetupCommand}
use Rattle.wire.specs.declared.command.SetupCommand.TheVariants.{Strike, Alias, Board}
use Rattle.wire.specs.declared.reply.Reply.{Reply}
use Rattle.console.specs.States.{Opened, State, pile_meaning}

-- ---- commands to a board

-- a call is answered with its answer or its refusal
abbrev pub call_reply : Call → Result Answer Refusal → Reply
call_reply call (Ok answer) = Reply.Called call answer
call_reply call (Err refusal) = Reply.Refused refusal

-- the reply to a command that was done, or to one that is refused
abbrev pub replied : Result Reply Refusal → Reply
replied (Ok reply) = reply
replied (Err refusal) = Reply.Refused refusal

-- the mill that a ticket stands on, or that it does not stand
abbrev pub where_reply : Ticket → Option ℕ → Reply
where_reply ticket (Some mill) = Reply.Stands (record { 0 = mill })
where_reply ticket None = Reply.Refused (NotStanding ticket)

-- a command on a board with one tally before it and another after it, and one move list before it and another after it
abbrev pub CommandBy : Meaning → BoardCommand → Tally → Tally → Reply → List Move → List Move → Type 0
CommandBy meaning (Perform call) before after reply list list' = (answer : Result Answer Refusal) × Outcome meaning call before after answer list list' × (reply ≡ call_reply call answer)
CommandBy meaning (Where ticket) before after reply list list' = (after ≡ before) × (reply ≡ where_reply ticket (placement before ticket.0))
CommandBy meaning Report before after reply list list' = (report : reports.Report) × (after ≡ before) × Reported meaning before report × (reply ≡ Reply.Reported report)

-- ---- lines

-- a line that is refused changes nothing
pub record LineRefused (before : State) (refusal : Refusal) (after : State) (reply : Reply) : Type 0 where
  pub unchanged : after ≡ before
  pub answered : reply ≡ Reply.Refused refusal

-- a command to a board that is open: the layers and the meaning stay
pub record LineServed (before : State) (opened : Opened) (command : BoardCommand) (after : State) (reply : Reply) (list list' : List Move) : Type 0 where
  pub tally : Tally
  pub done : CommandBy opened.meaning command opened.tally tally reply list list'
  pub board : after ≡ record { strikes = before.strikes; aliases = before.aliases; board = Some (record { meaning = opened.meaning; tally = tally }) }

-- the strikes after a strike: taken, or refused and as they were
abbrev pub StruckBy : State → Result (List Pair) Refusal → State → Reply → Type 0
StruckBy before (Ok pairs) after reply = (after ≡ record { strikes = pairs; aliases = before.aliases; board = before.board }) × (reply ≡ Reply.Struck)
StruckBy before (Err refusal) after reply = LineRefused before refusal after reply

-- the aliases after an alias
abbrev pub AliasedBy : State → Result (List Entry) Refusal → State → Reply → Type 0
AliasedBy before (Ok entries) after reply = (after ≡ record { strikes = before.strikes; aliases = entries; board = before.board }) × (reply ≡ Reply.Aliased)
AliasedBy before (Err refusal) after reply = LineRefused before refusal after reply

-- a line to a console whose board is open, by what it holds
abbrev pub OpenLine : State → Opened → Result BoardCommand Refusal → State → Reply → List Move → List Move → Type 0
OpenLine before opened (Ok command) after reply list list' = LineServed before opened command after reply list list'
OpenLine before opened (Err refusal) after reply list list' = LineRefused before refusal after reply

-- a line to a console whose board is not open: a command to the board opens it on the layers as they are
abbrev pub SetupLine : Meaning → State → Result SetupCommand Refusal → State → Reply → List Move → List Move → Type 0
SetupLine source before (Ok (Strike program mill)) after reply list list' = StruckBy before (after_strike program.0 mill.0 before.strikes) after reply
SetupLine source before (Ok (Alias program other)) after reply list list' = AliasedBy before (after_alias program.0 other.0 before.aliases) after reply
SetupLine source before (Ok (Board command)) after reply list list' =
    LineServed before (record { meaning = pile_meaning source before.strikes before.aliases; tally = opening (pile_meaning source before.strikes before.aliases) }) command after reply list list'
SetupLine source before (Err refusal) after reply list list' = LineRefused before refusal after reply

-- by whether the board is open
abbrev pub LineAt : Meaning → State → Option Opened → List ℕ → State → Reply → List Move → List Move → Type 0
LineAt source before (Some opened) line after reply list list' = OpenLine before opened (board_command_in line) after reply list list'
LineAt source before None line after reply list list' = SetupLine source before (setup_command_in line) after reply list list'

-- a line to a console over a source of this meaning
abbrev pub LineBy : Meaning → State → List ℕ → State → Reply → List Move → List Move → Type 0
LineBy source before line after reply list list' = LineAt source before before.board line after reply list list'
