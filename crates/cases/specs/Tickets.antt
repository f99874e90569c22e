-- The last ticket, and the one behind it.
use Rattle.std.specs.Prelude.{ℕ}
use Rattle.vocabulary.specs.declared.numbers.Program.{Program}
use Rattle.vocabulary.specs.declared.numbers.Ticket.{Ticket}
use Rattle.vocabulary.specs.declared.refusal.Refusal.TheVariants.{NoSuchTicket}
use Rattle.capability.specs.Meaning.{Meaning}
use Rattle.table.specs.Tally.{Tally}
use Rattle.board.specs.Causes.{Cause, Refused}
use Rattle.board.specs.declared.call.Call.TheVariants.{Add, Done}

-- the last ticket that exists
abbrev pub last_ticket : Ticket
last_ticket = record { 0 = 1023 }

-- the first number that is no ticket
abbrev pub ticket_past : Ticket
ticket_past = record { 0 = 1024 }

-- whatever stands, ticket 1,024 is neither added nor finished, and ticket 1,023 is not refused for its number
pub record InRange (meaning : Meaning) (tally : Tally) (room : ℕ) (program : Program) : Type 0 where
  pub not_added : Refused meaning tally room (Add ticket_past program) (NoSuchTicket ticket_past)
  pub not_finished : Refused meaning tally room (Done ticket_past) (NoSuchTicket ticket_past)
  pub last_added : Cause meaning tally room (Add last_ticket program) (NoSuchTicket last_ticket) → ⊥
  pub last_finished : Cause meaning tally room (Done last_ticket) (NoSuchTicket last_ticket) → ⊥

-- so it is in every shop, with every tally, move list and program
abbrev pub TicketsInRange : Type 0
TicketsInRange = (meaning : Meaning) (tally : Tally) (room : ℕ) (program : Program) → InRange meaning tally room program
