-- Mill 2 goes from a shop without tickets: nothing moves.
use Rattle.std.proofs.Common.{◌≡◌, ℕ, ◌≤◌, List, [], length, Ok, Err, Result, refl, ap, arith}
use Rattle.sets.proofs.Rising.{numbers-none}
use Rattle.vocabulary.specs.declared.refusal.Refusal.{Refusal}
use Rattle.capability.specs.Meaning.{Meaning}
use Rattle.semimatching.specs.Placements.{stands_on}
use Rattle.table.specs.Tally.{Tally, opening, placement}
use Rattle.board.specs.declared.call.Answer.{Answer}
use Rattle.board.specs.declared.call.Answer.TheVariants.{Added, Moved}
use Rattle.board.specs.declared.call.Call.TheVariants.{Withdraw}
use Rattle.board.specs.declared.moves.Move.{Move}
use Rattle.board.specs.Rules.{PlacedAgain, all, next}
use Rattle.board.specs.Outcomes.{Outcome}
use Rattle.board.proofs.CauseLaws.{withdraw_accepted}
use Rattle.board.proofs.RecordLaws.{records_few}
use Rattle.cases.specs.WorkedRun.{worked, mill}
use Rattle.cases.proofs.WorkedShop.{away, none_standing}

-- where there is nothing to place again
again_none : {meaning : Meaning} {before tally after : Tally} {ts : List ℕ} → ts ≡ [] → PlacedAgain meaning before ts tally after → after ≡ tally
again_none none all = refl
again_none none (next place m stood rule rest) = absurd (omega (arith, ap length none))

pub mill_goes : (after : Tally) (answer : Result Answer Refusal) (list list' : List Move) → 3 ≤ length list
    → Outcome worked (Withdraw (mill 2)) (opening worked) after answer list list' → (answer ≡ Ok (Moved 0)) × (after ≡ away)
mill_goes after (Ok (Added m count)) list list' room did = absurd did.rule
mill_goes after (Ok (Moved count)) list list' room did = (
  ap (λ n. Ok (Moved n)) (omega (arith, none_standing, records_few (opening worked) after, did.counted)),
  again_none (numbers-none (λ t. stands_on (placement (opening worked) t) 2) 1024 (λ _ _. refl)) did.rule,
)
mill_goes after (Err r) list list' room back =
    absurd (withdraw_accepted worked (opening worked) (length list) (mill 2) (omega arith) refl (λ k held. let on = held.on in absurd (grind arith)) (omega (arith, none_standing)) r back.refused.cause)
