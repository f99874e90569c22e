-- Mill 0 may not go while ticket 7, which has no other mill, stands on it.
use Rattle.std.proofs.Common.{◌≡◌, ℕ, ◌≤◌, true, List, Some, Ok, Err, Result, sym, ap, ◌∙◌, arith}
use Rattle.std.proofs.lemmas.Bool.{and_parts, both_ways}
use Rattle.vocabulary.specs.Told.{told}
use Rattle.vocabulary.specs.declared.refusal.Refusal.{Refusal}
use Rattle.vocabulary.specs.declared.refusal.Refusal.TheVariants.{Stranded}
use Rattle.table.specs.Tally.{Tally, mill_of, placement}
use Rattle.board.specs.declared.call.Answer.{Answer}
use Rattle.board.specs.declared.call.Call.TheVariants.{Withdraw}
use Rattle.board.specs.declared.moves.Move.{Move}
use Rattle.board.specs.Causes.{Strands, Cause, no_mill_to_withdraw, out, stranded, short}
use Rattle.board.specs.Outcomes.{Outcome}
use Rattle.board.proofs.TallyLaws.{mill_at}
use Rattle.cases.specs.WorkedRun.{worked, mill, ticket}
use Rattle.cases.proofs.Seats.{on_mill}
use Rattle.cases.proofs.WorkedShop.{able_1}

module _ (tally : Tally) (serves : tally.service 0 ≡ true) (holds : tally.seat 7 ≡ on_mill 1 0) (alone : (t : ℕ) → placement tally t ≡ Some 0 → t ≡ 7) where
  held : Strands worked tally 0 7
  held = record {
    on = ap mill_at holds;
    only = λ m may. able_1 m (and_parts (worked.able 1 m) (tally.service m) (sym (ap (λ o. mill_of worked tally.service o m) holds) ∙ may)).0;
  }

  cause : (room : ℕ) → Cause worked tally room (Withdraw (mill 0)) (Stranded (ticket 7))
  cause room = stranded held (λ k less other. omega (arith, alone k other.on))

  -- no other cause has a number as small
  only_cause : (room : ℕ) (r : Refusal) → Cause worked tally room (Withdraw (mill 0)) r → (told r).number ≤ 13 → r ≡ Stranded (ticket 7)
  only_cause room _ (no_mill_to_withdraw past) few = absurd (omega arith)
  only_cause room _ (out idle) few = absurd (both_ways (tally.service 0) idle serves)
  only_cause room _ (stranded {t = t} here lowest) few = ap (λ n. Stranded (ticket n)) (alone t.0 here.on)
  only_cause room _ (short less) few = absurd (omega arith)

  pub mill_held : (after : Tally) (answer : Result Answer Refusal) (list list' : List Move) → Outcome worked (Withdraw (mill 0)) tally after answer list list' → answer ≡ Err (Stranded (ticket 7))
  mill_held after (Ok answer) list list' did = absurd (did.accepted (Stranded (ticket 7)) (cause _))
  mill_held after (Err r) list list' back = ap Err (only_cause _ r back.refused.cause (back.refused.first (Stranded (ticket 7)) (cause _)))
