-- What each call does to a tally, with the mill that it tells.
use Rattle.std.specs.Prelude.{Some, None, Option}
use Rattle.vocabulary.specs.declared.numbers.Mill.{Mill}
use Rattle.capability.specs.Meaning.{Meaning}
use Rattle.table.specs.Tally.{Tally}
use Rattle.search.specs.Rules.{PlacedByRule}
use Rattle.board.specs.Rules.{Finished, Withdrawn, Returned}
use Rattle.board.specs.declared.call.Call.{Call}
use Rattle.board.specs.declared.call.Call.TheVariants.{Add, Done, Withdraw, Return}

-- the rule of each call; that of adding tells the ticket's mill, and no other tells one
abbrev pub Ruling : Meaning → Call → Tally → Option Mill → Tally → Type 0
Ruling meaning (Add ticket program) before (Some mill) after = PlacedByRule meaning before ticket.0 program.0 after mill.0
Ruling meaning (Add ticket program) before None after = ⊥
Ruling meaning (Done ticket) before (Some mill) after = ⊥
Ruling meaning (Done ticket) before None after = Finished meaning before ticket.0 after
Ruling meaning (Withdraw mill) before (Some told) after = ⊥
Ruling meaning (Withdraw mill) before None after = Withdrawn meaning before mill.0 after
Ruling meaning (Return mill) before (Some told) after = ⊥
Ruling meaning (Return mill) before None after = Returned meaning before mill.0 after
