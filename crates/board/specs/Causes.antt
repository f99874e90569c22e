-- Why a call is sent back: the causes, for its arguments, the length of its move list and the tally before it.
use Rattle.std.specs.Prelude.{◌≡◌, ℕ, ◌<◌, ◌≤◌, true, false, is_some, Some, Ok, Err, Result}
use Rattle.vocabulary.specs.Told.{told}
use Rattle.vocabulary.specs.declared.numbers.Mill.{Mill}
use Rattle.vocabulary.specs.declared.numbers.Program.{Program}
use Rattle.vocabulary.specs.declared.numbers.Ticket.{Ticket}
use Rattle.vocabulary.specs.declared.refusal.Refusal.{Refusal}
use Rattle.vocabulary.specs.declared.refusal.Refusal.TheVariants.{NoSuchTicket, Standing, NotStanding, NoAbleMill, NoSuchMill, SameService, Stranded, ShortList}
use Rattle.capability.specs.Meaning.{Meaning}
use Rattle.table.specs.Tally.{Tally, placement, mill_for, mill_of, standing}
use Rattle.board.specs.declared.call.Call.{Call}
use Rattle.board.specs.declared.call.Call.TheVariants.{Add, Done, Withdraw, Return}

-- a ticket on a mill that may stand on no other
pub record Strands (meaning : Meaning) (tally : Tally) (mill ticket : ℕ) : Type 0 where
  pub on : placement tally ticket ≡ Some mill
  pub only : (m : ℕ) → mill_of meaning tally.service (tally.seat ticket) m ≡ true → m ≡ mill

pub data Cause (meaning : Meaning) (tally : Tally) (room : ℕ) : Call → Refusal → Type 0 where
  -- 7: a ticket above 1,023
  no_ticket_to_add : {t : Ticket} {p : Program} → 1024 ≤ t.0 → Cause meaning tally room (Add t p) (NoSuchTicket t)
  no_ticket_to_finish : {t : Ticket} → 1024 ≤ t.0 → Cause meaning tally room (Done t) (NoSuchTicket t)
  -- 8: an added ticket that stands already
  stands : {t : Ticket} {p : Program} → is_some (tally.seat t.0) ≡ true → Cause meaning tally room (Add t p) (Standing t)
  -- 9: a finished ticket that does not stand
  away : {t : Ticket} → is_some (tally.seat t.0) ≡ false → Cause meaning tally room (Done t) (NotStanding t)
  -- 10: no mill in service is able
  unable : {t : Ticket} {p : Program} → ((m : ℕ) → mill_for meaning tally.service p.0 m ≡ false) → Cause meaning tally room (Add t p) (NoAbleMill t)
  -- 11: a mill that is not below the count
  no_mill_to_withdraw : {m : Mill} → meaning.mills ≤ m.0 → Cause meaning tally room (Withdraw m) (NoSuchMill m)
  no_mill_to_return : {m : Mill} → meaning.mills ≤ m.0 → Cause meaning tally room (Return m) (NoSuchMill m)
  -- 12: a mill that is out already, or in already
  out : {m : Mill} → tally.service m.0 ≡ false → Cause meaning tally room (Withdraw m) (SameService m)
  serves : {m : Mill} → tally.service m.0 ≡ true → Cause meaning tally room (Return m) (SameService m)
  -- 13: a ticket that has no other mill, the lowest such
  stranded : {m : Mill} {t : Ticket} → Strands meaning tally m.0 t.0 → ((k : ℕ) → k < t.0 → Strands meaning tally m.0 k → ⊥) → Cause meaning tally room (Withdraw m) (Stranded t)
  -- 14: a move list that is shorter than the number of tickets standing
  short : {c : Call} → room < standing tally → Cause meaning tally room c (ShortList (standing tally))

-- a call without a cause is accepted
abbrev pub Accepted : Meaning → Tally → ℕ → Call → Type 0
Accepted meaning tally room call = (r : Refusal) → Cause meaning tally room call r → ⊥

-- it may be accepted, if its move list is long enough
abbrev pub Acceptable : Meaning → Tally → Call → Type 0
Acceptable meaning tally call = (room : ℕ) × Accepted meaning tally room call

-- any other is refused with the cause of the smallest number
pub record Refused (meaning : Meaning) (tally : Tally) (room : ℕ) (call : Call) (refusal : Refusal) : Type 0 where
  pub cause : Cause meaning tally room call refusal
  pub first : (other : Refusal) → Cause meaning tally room call other → (told refusal).number ≤ (told other).number

-- a call with a move list of so many entries, judged: accepted, or refused with a cause
abbrev pub Judged : Meaning → Tally → ℕ → Call → Result (Unit {0}) Refusal → Type 0
Judged meaning tally room call (Ok accepted) = Accepted meaning tally room call
Judged meaning tally room call (Err refusal) = Refused meaning tally room call refusal

-- a call, judged by all but its move list: it may be accepted, or is refused with that cause whatever the list
abbrev pub JudgedForAnyList : Meaning → Tally → Call → Result (Unit {0}) Refusal → Type 0
JudgedForAnyList meaning tally call (Ok accepted) = Acceptable meaning tally call
JudgedForAnyList meaning tally call (Err refusal) = (room : ℕ) → Refused meaning tally room call refusal
