-- The tally worked out from calls, answers and records, where an answer tells a mill or none.
use Rattle.std.specs.Prelude.{true, false, List, take, Some, None, Ok, Err, Option, Result}
use Rattle.std.specs.Option.{option_map}
use Rattle.vocabulary.specs.declared.numbers.Mill.{Mill}
use Rattle.vocabulary.specs.declared.refusal.Refusal.{Refusal}
use Rattle.table.specs.Tally.{Tally, seated, serving}
use Rattle.board.specs.declared.call.Answer.{Answer}
use Rattle.board.specs.declared.call.Answer.TheVariants.{Added, Moved}
use Rattle.board.specs.declared.call.Call.{Call}
use Rattle.board.specs.declared.call.Call.TheVariants.{Add, Done, Withdraw, Return}
use Rattle.board.specs.declared.moves.Move.{Move}
use Rattle.board.specs.Records.{moved_by, count_in}

-- the mill that an answer tells: that of an added ticket
abbrev pub mill_told : Answer → Option Mill
mill_told (Added mill count) = Some mill
mill_told (Moved count) = None

-- the tally after an accepted call, from its arguments, its answer and its records alone
abbrev pub after_told : Tally → Call → Answer → List Move → Tally
after_told tally (Add ticket program) answer records = seated (moved_by tally records) ticket.0 (option_map (λ mill. record { program = program.0; mill = mill.0 }) (mill_told answer))
after_told tally (Done ticket) answer records = seated (moved_by tally records) ticket.0 None
after_told tally (Withdraw mill) answer records = serving (moved_by tally records) mill.0 false
after_told tally (Return mill) answer records = serving (moved_by tally records) mill.0 true

-- the tally after any call: the records are as many of the first entries of its move list as the answer tells,
-- and a refused call changes nothing
abbrev pub noted : Tally → Call → Result Answer Refusal → List Move → Tally
noted tally call (Ok answer) list = after_told tally call answer (take (count_in answer) list)
noted tally call (Err refusal) list = tally
