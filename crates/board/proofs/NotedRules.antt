-- The tally worked out from what an accepted call tells and from its records is the one after it.
use Rattle.std.proofs.Common.{◌≡◌, ℕ, ◌≤◌, true, false, List, ◌++◌, length, take, drop, Some, None, Ok, sym, ap, ◌∙◌}
use Rattle.std.proofs.lemmas.List.{take_at}
use Rattle.vocabulary.specs.declared.refusal.Refusal.TheVariants.{Standing}
use Rattle.capability.specs.Meaning.{Meaning}
use Rattle.table.specs.Tally.{Tally}
use Rattle.board.specs.Causes.{Accepted, stands}
use Rattle.board.specs.Notes.{mill_told, after_told, noted}
use Rattle.board.specs.Records.{records_of, count_in}
use Rattle.board.specs.Rulings.{Ruling}
use Rattle.board.specs.declared.call.Answer.{Answer}
use Rattle.board.specs.declared.call.Answer.TheVariants.{Added, Moved}
use Rattle.board.specs.declared.call.Call.{Call}
use Rattle.board.specs.declared.call.Call.TheVariants.{Add, Done, Withdraw, Return}
use Rattle.board.specs.declared.moves.Move.{Move}
use Rattle.board.proofs.RecordMoves.{agrees_seated, agrees_serving}
use Rattle.board.proofs.RecordRules.{placed_seat, placed_others, placed_service, finished_seat, finished_others, finished_service, withdrawn_program, withdrawn_service, returned_program, returned_service, seat_away}

pub ruling_agrees : (meaning : Meaning) (room : ℕ) (call : Call) (before after : Tally) (answer : Answer) → ((t : ℕ) → 1024 ≤ t → before.seat t ≡ None)
    → Accepted meaning before room call → Ruling meaning call before (mill_told answer) after → after ≡ after_told before call answer (records_of before after)
ruling_agrees meaning room (Add ticket program) before after (Added mill count) past accepted rule =
    agrees_seated before after past ticket.0 (Some (record { program = program.0; mill = mill.0 }))
    (placed_seat meaning before ticket.0 program.0 after mill.0 rule (seat_away (before.seat ticket.0) (λ h. accepted (Standing ticket) (stands h))))
    (placed_others meaning before ticket.0 program.0 after mill.0 rule) (placed_service meaning before ticket.0 program.0 after mill.0 rule)
ruling_agrees meaning room (Done ticket) before after (Moved count) past accepted rule =
    agrees_seated before after past ticket.0 None (finished_seat meaning before ticket.0 after rule) (finished_others meaning before ticket.0 after rule)
    (finished_service meaning before ticket.0 after rule)
ruling_agrees meaning room (Withdraw mill) before after (Moved count) past accepted rule =
    agrees_serving before after past mill.0 false (withdrawn_program meaning before mill.0 after rule past) (withdrawn_service meaning before mill.0 after rule)
ruling_agrees meaning room (Return mill) before after (Moved count) past accepted rule =
    agrees_serving before after past mill.0 true (returned_program meaning before mill.0 after rule) (returned_service meaning before mill.0 after rule)
ruling_agrees meaning room (Add ticket program) before after (Moved count) past accepted rule = absurd rule
ruling_agrees meaning room (Done ticket) before after (Added mill count) past accepted rule = absurd rule
ruling_agrees meaning room (Withdraw mill) before after (Added told count) past accepted rule = absurd rule
ruling_agrees meaning room (Return mill) before after (Added told count) past accepted rule = absurd rule

-- the same, with the records as they stand in the list
pub ruling_noted : (meaning : Meaning) (room : ℕ) (call : Call) (before after : Tally) (answer : Answer) (list list' : List Move) → ((t : ℕ) → 1024 ≤ t → before.seat t ≡ None)
    → Accepted meaning before room call → Ruling meaning call before (mill_told answer) after
    → list' ≡ records_of before after ++ drop (length (records_of before after)) list → count_in answer ≡ length (records_of before after)
    → after ≡ noted before call (Ok answer) list'
ruling_noted meaning room call before after answer list list' past accepted rule written counted =
    ruling_agrees meaning room call before after answer past accepted rule
    ∙ ap (after_told before call answer) (sym (ap (take (count_in answer)) written ∙ take_at (records_of before after) (drop (length (records_of before after)) list) (count_in answer) (sym counted)))
