-- The move records of a call, and the tally that calls, answers and records make.
use Rattle.std.specs.Prelude.{ℕ, true, false, cond, List, [], ◌∷◌, Some, None, Option, ◌==◌}
use Rattle.std.specs.List.{range_with_len, flat_map}
use Rattle.table.specs.Tally.{Tally, placement, seated, serving}
use Rattle.search.specs.Rules.{relocated}
use Rattle.board.specs.declared.call.Answer.{Answer}
use Rattle.board.specs.declared.call.Answer.TheVariants.{Added, Moved}
use Rattle.board.specs.declared.call.Call.{Call}
use Rattle.board.specs.declared.call.Call.TheVariants.{Add, Done, Withdraw, Return}
use Rattle.board.specs.declared.moves.Move.{Move}

-- the record of a ticket that stands before and after on different mills
abbrev pub record_of : ℕ → Option ℕ → Option ℕ → List Move
record_of ticket None to = []
record_of ticket (Some from) None = []
record_of ticket (Some from) (Some to) = cond (from == to) [] (record { ticket = record { 0 = ticket }; from = record { 0 = from }; to = record { 0 = to } } ∷ [])

-- one record for each such ticket, by rising ticket number
unfoldable pub records_of : Tally → Tally → List Move
records_of before after = flat_map (λ t. record_of t (placement before t) (placement after t)) (range_with_len 0 1024)

-- each ticket in the records goes to its record's second mill
abbrev pub moved_by : Tally → List Move → Tally
moved_by tally [] = tally
moved_by tally (r ∷ rs) = moved_by (relocated tally (record { ticket = r.ticket.0; mill = r.to.0 })) rs

-- the mill that an answer names for an added ticket; 0 where it names none
abbrev pub mill_in : Answer → ℕ
mill_in (Added mill count) = mill.0
mill_in (Moved count) = 0

abbrev pub count_in : Answer → ℕ
count_in (Added mill count) = count
count_in (Moved count) = count

-- the tally after an accepted call, from its arguments, its answer and its records alone
abbrev pub after_call : Tally → Call → Answer → List Move → Tally
after_call tally (Add ticket program) answer records = seated (moved_by tally records) ticket.0 (Some (record { program = program.0; mill = mill_in answer }))
after_call tally (Done ticket) answer records = seated (moved_by tally records) ticket.0 None
after_call tally (Withdraw mill) answer records = serving (moved_by tally records) mill.0 false
after_call tally (Return mill) answer records = serving (moved_by tally records) mill.0 true
