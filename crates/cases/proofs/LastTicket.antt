-- Ticket 1,024 is refused for its number, and ticket 1,023 is not.
use Rattle.std.proofs.Common.{ℕ, arith}
use Rattle.vocabulary.specs.declared.numbers.Program.{Program}
use Rattle.vocabulary.specs.declared.refusal.Refusal.TheVariants.{NoSuchTicket}
use Rattle.capability.specs.Meaning.{Meaning}
use Rattle.table.specs.Tally.{Tally}
use Rattle.board.specs.Causes.{Cause, no_ticket_to_add, no_ticket_to_finish}
use Rattle.board.specs.declared.call.Call.TheVariants.{Add, Done}
use Rattle.board.proofs.CauseLaws.{add_range, done_range}
use Rattle.cases.specs.Tickets.{last_ticket, ticket_past, TicketsInRange}

module _ (meaning : Meaning) (tally : Tally) (room : ℕ) (program : Program) where
  last_added : Cause meaning tally room (Add last_ticket program) (NoSuchTicket last_ticket) → ⊥
  last_added (no_ticket_to_add past) = omega arith

  last_finished : Cause meaning tally room (Done last_ticket) (NoSuchTicket last_ticket) → ⊥
  last_finished (no_ticket_to_finish past) = omega arith

pub tickets_in_range : TicketsInRange
tickets_in_range meaning tally room program = record {
  not_added = add_range meaning tally room ticket_past program (omega arith);
  not_finished = done_range meaning tally room ticket_past (omega arith);
  last_added = last_added meaning tally room program;
  last_finished = last_finished meaning tally room program;
}
