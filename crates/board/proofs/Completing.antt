-- What finishing, withdrawing and returning do to a table, from what their parts do.
use Rattle.std.proofs.Common.{◌≡◌, ◌+◌, ◌<◌, ◌≤◌, Bool, true, false, eqb, Some, None, sym, refl, ap, ◌∙◌, subst₂, inl, inr, ⊎_elim}
use Rattle.std.proofs.lemmas.Bool.{cases_Bool, cond-true, eq-eqb}
use Rattle.sets.specs.Sets.{numbers}
use Rattle.vocabulary.specs.declared.numbers.Mill.{Mill}
use Rattle.vocabulary.specs.declared.numbers.Ticket.{Ticket}
use Rattle.semimatching.specs.Placements.{stands_on, load}
use Rattle.table.specs.Held.{meant, tally_of}
use Rattle.table.specs.Tally.{Place, Tally, shop_in, placement, seated, serving}
use Rattle.table.specs.declared.table.Table.{Table}
use Rattle.table.proofs.TableLaws.{service_few, stands_few, placed_served, semi}
use Rattle.search.specs.Rules.{ShiftedByRule, NothingToShift, EvenIn, Leaning}
use Rattle.search.specs.Shifts.{Shift}
use Rattle.board.specs.Causes.{Acceptable}
use Rattle.board.specs.Completed.{Completed}
use Rattle.board.specs.Rules.{Finished, cleared, PlacedAgain, Settled}
use Rattle.board.specs.declared.call.Call.TheVariants.{Done, Withdraw, Return}
use Rattle.board.proofs.Accepting.{return_out}
use Rattle.board.proofs.EvenCalls.{finishing, withdrawing, returning}
use Rattle.board.proofs.TallyLaws.{mill_at}

-- ---- a ticket is finished

module _ (before : Table) (ticket : Ticket) (place : Place) (stood : (tally_of before).seat ticket.0 ≡ Some place) where
  pub finished_mill : place.mill < 64
  finished_mill = service_few before place.mill (placed_served before ticket.0 place.mill (ap mill_at stood))

  module _ (off : Table) (same : meant off ≡ meant before) (taken : tally_of off ≡ seated (tally_of before) ticket.0 None)
      (moved : Bool) (after : Table) (step : Shift off place.mill moved after) where
    abbrev gone : Tally
    gone = seated (tally_of before) ticket.0 None

    finished_rule : Finished (meant before) (tally_of before) ticket.0 (tally_of after)
    finished_rule = record {
      mill = place.mill;
      stood = ap mill_at stood;
      rule =
          ⊎_elim
          (λ (yes : moved ≡ true). inl (subst₂ (λ m t. ShiftedByRule m t place.mill (tally_of after)) same taken (step.shifted yes)))
          (λ (no : moved ≡ false).
          inr (subst₂ (λ m t. NothingToShift m t place.mill) same taken (step.nothing no).1, (step.nothing no).0 ∙ taken))
          (cases_Bool moved);
    }

    finished_even : EvenIn (meant before) (tally_of before) → EvenIn (meant after) (tally_of after)
    finished_even even =
        let low = stands_few before ticket.0 place stood in
        let start = finishing (meant before) (tally_of before) (semi before) even ticket.0 place.mill low (ap mill_at stood) in
        let at_off = subst₂ (λ m t. (lean : Leaning m t place.mill) × (lean.level place.mill ≤ load (shop_in m t) (placement t) place.mill + 2)) (sym same) (sym taken) start in
        ⊎_elim
        (λ (yes : moved ≡ true). step.once yes at_off.0 at_off.1)
        (λ (no : moved ≡ false). step.settles no at_off.0)
        (cases_Bool moved)

    pub finished_completed : Completed before (Done ticket) None after
    finished_completed = record {
      meaning = step.meaning ∙ same;
      rule = finished_rule;
      even = finished_even;
    }

-- ---- a mill is withdrawn

module _ (before : Table) (mill : Mill) (off : Table) (same : meant off ≡ meant before) (gone : tally_of off ≡ serving (cleared (tally_of before) mill.0) mill.0 false) (after : Table) where
  pub withdrawn_completed : meant after ≡ meant off
      → PlacedAgain (meant off) (tally_of before) (numbers (λ t. stands_on (placement (tally_of before) t) mill.0) 1024) (tally_of off) (tally_of after)
      → (EvenIn (meant off) (tally_of off) → EvenIn (meant after) (tally_of after)) → Completed before (Withdraw mill) None after
  withdrawn_completed meaning again even = record {
    meaning = meaning ∙ same;
    rule = subst₂ (λ m t. PlacedAgain m (tally_of before) (numbers (λ t. stands_on (placement (tally_of before) t) mill.0) 1024) t (tally_of after)) same gone again;
    even = λ was. even (subst₂ EvenIn (sym same) (sym gone) (withdrawing (meant before) (tally_of before) (semi before) was mill.0).1);
  }

-- ---- a mill is returned

-- it is in service then, so it is below 64
pub returned_few : (before back : Table) (mill : Mill) → tally_of back ≡ serving (tally_of before) mill.0 true → mill.0 < 64
returned_few before back mill serves =
    service_few back mill.0 (ap (λ tally. tally.service mill.0) serves ∙ cond-true (eqb mill.0 mill.0) true ((tally_of before).service mill.0) (eq-eqb mill.0 mill.0 refl))

module _ (before : Table) (mill : Mill) (may : Acceptable (meant before) (tally_of before) (Return mill)) where
  pub returned_completed : (back : Table) → meant back ≡ meant before → tally_of back ≡ serving (tally_of before) mill.0 true
      → (after : Table) → meant after ≡ meant back → Settled (meant back) mill.0 (tally_of back) (tally_of after)
      → (Leaning (meant back) (tally_of back) mill.0 → EvenIn (meant after) (tally_of after)) → Completed before (Return mill) None after
  returned_completed back same serves after meaning settled even = record {
    meaning = meaning ∙ same;
    rule = subst₂ (λ m t. Settled m mill.0 t (tally_of after)) same serves settled;
    even = λ was.
        even (subst₂ (λ m t. Leaning m t mill.0) (sym same) (sym serves)
        (returning (meant before) (tally_of before) (semi before) was mill.0 (return_out (meant before) (tally_of before) mill may)));
  }
