-- A shift towards a mill, of a table: it is done, or there is nothing to do.
use Rattle.std.proofs.Common.{◌≡◌, ℕ, ◌+◌, ◌<◌, ◌≤◌, true, false, List, length, sym, refl, subst}
use Rattle.std.proofs.lemmas.Bool.{true≢false, false≢true}
use Rattle.semimatching.specs.Chains.{Step}
use Rattle.semimatching.specs.Placements.{load}
use Rattle.table.specs.declared.table.Table.{Table}
use Rattle.table.specs.Held.{meant, tally_of}
use Rattle.table.specs.Tally.{shop_in, placement}
use Rattle.table.proofs.TableLaws.{semi}
use Rattle.search.specs.declared.trail.Trail.{Trail}
use Rattle.search.specs.BackSearches.{Sought, Way, WayOn}
use Rattle.search.specs.Firsts.{Greatest}
use Rattle.search.specs.Rules.{carried_out, EvenIn, Leaning}
use Rattle.search.specs.Shifts.{Shift}
use Rattle.search.specs.Trails.{queue_of}
use Rattle.search.proofs.BackwardChoice.{nothing_left, settled, chosen_on, shifted, leaning_on, even_after}

module _ (table : Table) (mill : ℕ) {trail : Trail} (S : Sought (meant table) (tally_of table) mill trail (length (queue_of trail)) 0)
    {from : ℕ} (G : Greatest (load (shop_in (meant table) (tally_of table)) (placement (tally_of table))) (queue_of trail) from) where
  abbrev loads : ℕ → ℕ
  loads = load (shop_in (meant table) (tally_of table)) (placement (tally_of table))

  pub shift_none : loads from < loads mill + 2 → Shift table mill false table
  shift_none few = record {
    meaning = refl;
    shifted = λ e. absurd (false≢true e);
    nothing = λ _. (refl, nothing_left S (semi table) G few);
    leans = λ e. absurd (false≢true e);
    settles = λ _. settled S (semi table) G few;
    once = λ e. absurd (false≢true e);
  }

  pub shift_on : loads mill + 2 ≤ loads from → WayOn (meant table) (tally_of table) trail from
  shift_on = chosen_on S (semi table) G

  pub shift_done : loads mill + 2 ≤ loads from → (after : Table) → meant after ≡ meant table → ((steps : List Step) → Way trail from steps → tally_of after ≡ carried_out (tally_of table) steps)
      → Shift table mill true after
  shift_done better after same is = record {
    meaning = same;
    shifted = λ _. shifted S (semi table) G better is;
    nothing = λ e. absurd (true≢false e);
    leans = λ _ lean. subst (λ m. Leaning m (tally_of after) mill) (sym same) (leaning_on S (semi table) G better is lean);
    settles = λ e. absurd (true≢false e);
    once = λ _ lean room. subst (λ m. EvenIn m (tally_of after)) (sym same) (even_after S (semi table) G better is lean room);
  }
