-- A reply tells no more moves than there are tickets.
use Rattle.std.proofs.Common.{ℕ, ◌≤◌, List, Some, None, Ok, Err, Option, Result, sym, subst, arith, ◌≡◌, MatchResult}
use Rattle.vocabulary.specs.declared.numbers.Ticket.{Ticket}
use Rattle.vocabulary.specs.declared.refusal.Refusal.{Refusal}
use Rattle.capability.specs.Meaning.{Meaning}
use Rattle.layers.specs.Aliases.{after_alias}
use Rattle.layers.specs.Strikes.{after_strike}
use Rattle.layers.specs.declared.aliases.Entry.{Entry}
use Rattle.layers.specs.declared.strikes.Pair.{Pair}
use Rattle.table.specs.Tally.{Tally, placement}
use Rattle.table.proofs.TallyLaws.{standing_few}
use Rattle.board.specs.Outcomes.{Outcome}
use Rattle.board.specs.declared.call.Answer.{Answer}
use Rattle.board.specs.declared.call.Answer.TheVariants.{Added, Moved}
use Rattle.board.specs.declared.call.Call.{Call}
use Rattle.board.specs.declared.moves.Move.{Move}
use Rattle.board.proofs.RecordLaws.{records_few}
use Rattle.wire.specs.Commands.{board_command_in, setup_command_in}
use Rattle.wire.specs.Replies.{moves_told}
use Rattle.wire.specs.declared.command.BoardCommand.{BoardCommand}
use Rattle.wire.specs.declared.command.BoardCommand.TheVariants.{Perform, Where, Report}
use Rattle.wire.specs.declared.command.SetupCommand.{SetupCommand}
use Rattle.wire.specs.declared.command.SetupCommand.TheVariants.{Strike, Alias, Board}
use Rattle.wire.specs.declared.reply.Reply.{Reply}
use Rattle.console.specs.Commands.{call_reply, where_reply, replied, CommandBy, LineRefused, LineServed, StruckBy, AliasedBy, OpenLine, SetupLine, LineAt, LineBy}
use Rattle.console.specs.States.{Opened, State}

abbrev Few : Reply → Type 0
Few reply = moves_told reply ≤ 1024

call_few : (meaning : Meaning) (call : Call) (before after : Tally) (answer : Result Answer Refusal) (list list' : List Move) → Outcome meaning call before after answer list list' → Few (call_reply call answer)
call_few meaning call before after (Ok (Added mill count)) list list' done = omega (arith, done.counted, records_few before after, standing_few before)
call_few meaning call before after (Ok (Moved count)) list list' done = omega (arith, done.counted, records_few before after, standing_few before)
call_few meaning call before after (Err refusal) list list' back = omega arith

where_few : (ticket : Ticket) (at : Option ℕ) → Few (where_reply ticket at)
where_few ticket (Some mill) = omega arith
where_few ticket None = omega arith

command_few : (meaning : Meaning) (command : BoardCommand) (before after : Tally) (reply : Reply) (list list' : List Move) → CommandBy meaning command before after reply list list' → Few reply
command_few meaning (Perform call) before after reply list list' done = subst Few (sym done.2) (call_few meaning call before after done.0 list list' done.1)
command_few meaning (Where ticket) before after reply list list' done = subst Few (sym done.1) (where_few ticket (placement before ticket.0))
command_few meaning Report before after reply list list' done = subst Few (sym done.3) (omega arith)

refused_few : (state : State) (refusal : Refusal) (after : State) (reply : Reply) → LineRefused state refusal after reply → Few reply
refused_few state refusal after reply back = subst Few (sym back.answered) (omega arith)

served_few : (state : State) (opened : Opened) (command : BoardCommand) (after : State) (reply : Reply) (list list' : List Move) → LineServed state opened command after reply list list' → Few reply
served_few state opened command after reply list list' done = command_few opened.meaning command opened.tally done.tally reply list list' done.done

struck_few : (state : State) (result : Result (List Pair) Refusal) (after : State) (reply : Reply) → StruckBy state result after reply → Few reply
struck_few state (Ok pairs) after reply done = subst Few (sym done.1) (omega arith)
struck_few state (Err refusal) after reply back = refused_few state refusal after reply back

aliased_few : (state : State) (result : Result (List Entry) Refusal) (after : State) (reply : Reply) → AliasedBy state result after reply → Few reply
aliased_few state (Ok pairs) after reply done = subst Few (sym done.1) (omega arith)
aliased_few state (Err refusal) after reply back = refused_few state refusal after reply back

open_few : (state : State) (opened : Opened) (result : Result BoardCommand Refusal) (after : State) (reply : Reply) (list list' : List Move) → OpenLine state opened result after reply list list' → Few reply
open_few state opened (Ok command) after reply list list' done = served_few state opened command after reply list list' done
open_few state opened (Err refusal) after reply list list' back = refused_few state refusal after reply back

setup_few : (source : Meaning) (state : State) (result : Result SetupCommand Refusal) (after : State) (reply : Reply) (list list' : List Move) → SetupLine source state result after reply list list' → Few reply
setup_few source state (Ok (Strike program mill)) after reply list list' done = struck_few state (after_strike program.0 mill.0 state.strikes) after reply done
setup_few source state (Ok (Alias program other)) after reply list list' done = aliased_few state (after_alias program.0 other.0 state.aliases) after reply done
setup_few source state (Ok (Board command)) after reply list list' done = served_few state _ command after reply list list' done
setup_few source state (Err refusal) after reply list list' back = refused_few state refusal after reply back

line_few : (source : Meaning) (state : State) (board : Option Opened) (line : List ℕ) (after : State) (reply : Reply) (list list' : List Move) → LineAt source state board line after reply list list' → Few reply
line_few source state (Some opened) line after reply list list' done = open_few state opened (board_command_in line) after reply list list' done
line_few source state None line after reply list list' done = setup_few source state (setup_command_in line) after reply list list' done

pub reply_few : (source : Meaning) (state : State) (line : List ℕ) (after : State) (reply : Reply) (list list' : List Move) → LineBy source state line after reply list list' → moves_told reply ≤ 1024
reply_few source state = line_few source state state.board

-- a refusal is replied as one
pub replied_is : (done : Result Reply Refusal) (reply : Reply) → MatchResult done (λ r. reply ≡ r) (λ refusal. reply ≡ Reply.Refused refusal) → reply ≡ replied done
replied_is (Ok r) reply is = is
replied_is (Err refusal) reply is = is
