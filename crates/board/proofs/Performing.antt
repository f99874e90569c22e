-- An accepted call that was completed on a table, with its records written, was performed.
use Rattle.std.proofs.Common.{◌≡◌, ℕ, ◌<◌, ◌≤◌, List, ◌++◌, length, drop, Some, None, Option, sym, ap, ◌∙◌, subst, ⊎_elim, arith}
use Rattle.std.proofs.lemmas.Bool.{cases_lt, and_parts}
use Rattle.vocabulary.specs.declared.numbers.Mill.{Mill}
use Rattle.vocabulary.specs.declared.refusal.Refusal.TheVariants.{ShortList}
use Rattle.capability.specs.Meaning.{Meaning}
use Rattle.semimatching.specs.Sums.{count_to}
use Rattle.semimatching.proofs.Carrying.{differ}
use Rattle.table.specs.Held.{meant, tally_of}
use Rattle.table.specs.Tally.{Tally, mill_of, placement, standing}
use Rattle.table.specs.declared.table.Table.{Table}
use Rattle.table.proofs.TableLaws.{service_few, seat_past, stands_few, placed_few, semi}
use Rattle.search.specs.Rules.{EvenIn}
use Rattle.board.specs.Causes.{Accepted, short}
use Rattle.board.specs.Completed.{Completed}
use Rattle.board.specs.Notes.{mill_told}
use Rattle.board.specs.Records.{records_of, count_in}
use Rattle.board.specs.Rules.{Finished}
use Rattle.board.specs.Rulings.{Ruling}
use Rattle.board.specs.Outcomes.{AllStand, Fulfilled}
use Rattle.board.specs.Turns.{Few}
use Rattle.board.specs.declared.call.Answer.{Answer}
use Rattle.board.specs.declared.call.Call.{Call}
use Rattle.board.specs.declared.call.Call.TheVariants.{Add, Done, Withdraw, Return}
use Rattle.board.specs.declared.moves.Move.{Move}
use Rattle.board.proofs.Accepting.{add_away}
use Rattle.board.proofs.FewMoves.{add_count, done_count}
use Rattle.board.proofs.RecordLaws.{length_records, records_few}
use Rattle.board.proofs.NotedRules.{ruling_noted}
use Rattle.board.proofs.TallyLaws.{mill_at}

-- every ticket of a table stands on a mill that is able and in service
pub all_stand : (table : Table) → AllStand (meant table) (tally_of table)
all_stand table t place at =
    let may = ap (λ seat. mill_of (meant table) (tally_of table).service seat place.mill) (sym at) ∙ table.able t place.mill (ap mill_at at) in
    let both = and_parts ((meant table).able place.program place.mill) ((tally_of table).service place.mill) may in
    record {
      exists = stands_few table t place at;
      able = both.0;
      serves = both.1;
    }

-- an accepted call has room for its records
pub records_fit : (meaning : Meaning) (before after : Tally) (room : ℕ) (call : Call) → Accepted meaning before room call → length (records_of before after) ≤ room
records_fit meaning before after room call accepted =
    ⊎_elim
    (λ (less : room < standing before). absurd (accepted (ShortList (standing before)) (short less)))
    (λ (fits : standing before ≤ room). omega (arith, records_few before after))
    (cases_lt room (standing before))

-- adding and finishing move few tickets
few_moves : (before : Table) (room : ℕ) (call : Call) (told : Option Mill) (after : Tally) → Accepted (meant before) (tally_of before) room call
    → Ruling (meant before) call (tally_of before) told after → Few call (tally_of before) (count_to 1024 (λ t. differ (placement (tally_of before) t) (placement after t)))
few_moves before room (Add ticket program) (Some mill) after accepted rule =
    let count = add_count rule (add_away (meant before) (tally_of before) (service_few before) ticket program (room, accepted)) in
    omega (arith, count.0, count.1)
few_moves before room (Add ticket program) None after accepted rule = absurd rule
few_moves before room (Done ticket) (Some mill) after accepted rule = absurd rule
few_moves before room (Done ticket) None after accepted rule = done_count (semi before) rule (finished_exists rule)
  where
    finished_exists : Finished (meant before) (tally_of before) ticket.0 after → ticket.0 < 1024
    finished_exists done = placed_few before ticket.0 done.mill done.stood
few_moves before room (Withdraw mill) told after accepted rule = tt
few_moves before room (Return mill) told after accepted rule = tt

module _ (before after : Table) (call : Call) (told : Option Mill) (list list' : List Move) (count : ℕ) (answer : Answer)
    (accepted : Accepted (meant before) (tally_of before) (length list) call) (done : Completed before call told after)
    (written : list' ≡ records_of (tally_of before) (tally_of after) ++ drop (length (records_of (tally_of before) (tally_of after))) list)
    (counted : count ≡ length (records_of (tally_of before) (tally_of after))) (tells : mill_told answer ≡ told) (counts : count_in answer ≡ count) where
  pub performed : Fulfilled (meant before) call (tally_of before) (tally_of after) answer list list'
  performed =
      let rule = subst (λ told. Ruling (meant before) call (tally_of before) told (tally_of after)) (sym tells) done.rule in
      record {
        accepted = accepted;
        rule = rule;
        written = written;
        counted = counts ∙ counted;
        few =
            subst (Few call (tally_of before)) (sym (counts ∙ counted ∙ length_records (tally_of before) (tally_of after)))
            (few_moves before (length list) call told (tally_of after) accepted done.rule);
        agrees = ruling_noted (meant before) (length list) call (tally_of before) (tally_of after) answer list list' (seat_past before) accepted rule written (counts ∙ counted);
        able = subst (λ meaning. AllStand meaning (tally_of after)) done.meaning (all_stand after);
        stays_even = λ even. subst (λ meaning. EvenIn meaning (tally_of after)) done.meaning (done.even even);
      }
