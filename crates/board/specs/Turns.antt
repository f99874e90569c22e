-- One call, and what it leaves.
use Rattle.std.specs.Prelude.{◌≡◌, ℕ, ◌<◌, List, ◌++◌, length, drop}
use Rattle.capability.specs.Meaning.{Meaning}
use Rattle.semimatching.specs.Placements.{SemiMatching}
use Rattle.semimatching.specs.Sums.{count_to}
use Rattle.table.specs.Tally.{Tally, placement, shop_in}
use Rattle.search.specs.Rules.{EvenIn}
use Rattle.board.specs.declared.call.Answer.{Answer}
use Rattle.board.specs.declared.call.Call.{Call}
use Rattle.board.specs.declared.call.Call.TheVariants.{Add, Done, Withdraw, Return}
use Rattle.board.specs.declared.moves.Move.{Move}
use Rattle.board.specs.Causes.{Accepted}
use Rattle.board.specs.Records.{records_of, count_in, after_call}
use Rattle.board.specs.Rules.{Ruled}

-- adding and finishing move fewer tickets than mills are in service
abbrev pub Few : Call → Tally → ℕ → Type 0
Few (Add ticket program) before count = count < count_to 64 before.service
Few (Done ticket) before count = count < count_to 64 before.service
Few (Withdraw mill) before count = Unit {0}
Few (Return mill) before count = Unit {0}

-- an accepted call: it had no cause, it did what its rule says, it wrote the records and told their number,
-- the tally worked out from these is the board's, and an even board stays even
pub record Performed (meaning : Meaning) (call : Call) (before after : Tally) (answer : Answer) (list list' : List Move) : Type 0 where
  pub accepted : Accepted meaning before (length list) call
  pub rule : Ruled meaning call before answer after
  pub written : list' ≡ records_of before after ++ drop (length (records_of before after)) list
  pub counted : count_in answer ≡ length (records_of before after)
  pub few : Few call before (count_in answer)
  pub agrees : after ≡ after_call before call answer (records_of before after)
  pub able : SemiMatching (shop_in meaning after) (placement after)
  pub stays_even : EvenIn meaning before → EvenIn meaning after
