-- Which causes a call has, and which of them comes first: one lemma for each row of the table and each call.
use Rattle.std.proofs.Common.{◌≡◌, ℕ, ◌<◌, ◌≤◌, Bool, true, false, not, ◌&&◌, eqb, length, is_some, Some, None, Option, Ok, Err, Result, sym, refl, ap, ◌∙◌, subst, ⊎_elim, arith, ◌↔◌, IsTrue, MatchOption, MatchResult}
use Rattle.std.proofs.lemmas.Option.{none-some, same_Some}
use Rattle.std.specs.Option.{option_map}
use Rattle.std.proofs.lemmas.Bool.{and_from, and_left, and_parts, and_right, both_ways, cases_Bool, cases_eq, cases_lt, eq-eqb, eqb-false, eqb-true, ne_eqb, not_from_false, not_from_true}
use Rattle.sets.specs.Sets.{has, members}
use Rattle.sets.specs.declared.number_set.NumberSet.{NumberSet}
use Rattle.sets.proofs.Rising.{numbers_empty, numbers-none}
use Rattle.vocabulary.specs.Told.{told}
use Rattle.vocabulary.specs.declared.numbers.Mill.{Mill}
use Rattle.vocabulary.specs.declared.numbers.Program.{Program}
use Rattle.vocabulary.specs.declared.numbers.Ticket.{Ticket}
use Rattle.vocabulary.specs.declared.refusal.Refusal.{Refusal}
use Rattle.vocabulary.specs.declared.refusal.Refusal.TheVariants.{NoSuchTicket, Standing, NotStanding, NoAbleMill, NoSuchMill, SameService, Stranded, ShortList}
use Rattle.capability.specs.Meaning.{Meaning}
use Rattle.table.specs.Held.{meant, tally_of}
use Rattle.table.specs.Seats.{place_of}
use Rattle.table.specs.Tally.{Tally, mill_for, mill_of, standing}
use Rattle.table.specs.declared.seat.Seat.{Seat}
use Rattle.table.specs.declared.table.Table.{Table}
use Rattle.table.proofs.TableLaws.{service_few, placed_few}
use Rattle.board.specs.declared.call.Call.{Call}
use Rattle.board.specs.declared.call.Call.TheVariants.{Add, Done, Withdraw, Return}
use Rattle.board.specs.Causes.{Strands, Cause, no_ticket_to_add, no_ticket_to_finish, stands, away, unable, no_mill_to_withdraw, no_mill_to_return, out, serves, stranded, short, Accepted, Acceptable, Refused, Judged}

-- a refusal comes first where each cause of the call has its number or a larger one
abbrev Least : ℕ → Refusal → Type 0
Least number other = number ≤ (told other).number

-- ---- the length of the move list, which decides once every other cause is out

-- a call that may be accepted has no cause but a short list
only_short : (meaning : Meaning) (tally : Tally) (call : Call) → Acceptable meaning tally call → (room : ℕ) (P : Refusal → Type 0) → (room < standing tally → P (ShortList (standing tally)))
    → (r : Refusal) → Cause meaning tally room call r → P r
only_short meaning tally _ may room P at14 _ (no_ticket_to_add past) = absurd (may.1 _ (no_ticket_to_add past))
only_short meaning tally _ may room P at14 _ (no_ticket_to_finish past) = absurd (may.1 _ (no_ticket_to_finish past))
only_short meaning tally _ may room P at14 _ (stands here) = absurd (may.1 _ (stands here))
only_short meaning tally _ may room P at14 _ (away gone) = absurd (may.1 _ (away gone))
only_short meaning tally _ may room P at14 _ (unable none) = absurd (may.1 _ (unable none))
only_short meaning tally _ may room P at14 _ (no_mill_to_withdraw past) = absurd (may.1 _ (no_mill_to_withdraw past))
only_short meaning tally _ may room P at14 _ (no_mill_to_return past) = absurd (may.1 _ (no_mill_to_return past))
only_short meaning tally _ may room P at14 _ (out idle) = absurd (may.1 _ (out idle))
only_short meaning tally _ may room P at14 _ (serves busy) = absurd (may.1 _ (serves busy))
only_short meaning tally _ may room P at14 _ (stranded here lowest) = absurd (may.1 _ (stranded here lowest))
only_short meaning tally call may room P at14 _ (short less) = at14 less

pub judged_by_list : (meaning : Meaning) (tally : Tally) (call : Call) → Acceptable meaning tally call → (room : ℕ) (r : Result (Unit {0}) Refusal)
    → MatchResult r (λ _. standing tally ≤ room) (λ e. (room < standing tally) × (e ≡ ShortList (standing tally))) → Judged meaning tally room call r
judged_by_list meaning tally call may room (Ok _) fits = only_short meaning tally call may room (λ _. ⊥) (λ less. omega arith)
judged_by_list meaning tally call may room (Err e) less = subst (Refused meaning tally room call) (sym less.1) (record {
  cause = short less.0;
  first = only_short meaning tally call may room (Least 14) (λ _. omega arith);
})

module _ (meaning : Meaning) (tally : Tally) (room : ℕ) where
  -- ---- adding

  module _ (t : Ticket) (p : Program) where
    pub add_each : (P : Refusal → Type 0)
        → (1024 ≤ t.0 → P (NoSuchTicket t))
        → (is_some (tally.seat t.0) ≡ true → P (Standing t))
        → (((m : ℕ) → mill_for meaning tally.service p.0 m ≡ false) → P (NoAbleMill t))
        → (room < standing tally → P (ShortList (standing tally)))
        → (r : Refusal) → Cause meaning tally room (Add t p) r → P r
    add_each P at7 at8 at10 at14 _ (no_ticket_to_add past) = at7 past
    add_each P at7 at8 at10 at14 _ (stands here) = at8 here
    add_each P at7 at8 at10 at14 _ (unable none) = at10 none
    add_each P at7 at8 at10 at14 _ (short less) = at14 less

    pub add_range : 1024 ≤ t.0 → Refused meaning tally room (Add t p) (NoSuchTicket t)
    add_range past = record {
      cause = no_ticket_to_add past;
      first = add_each (Least 7) (λ _. omega arith) (λ _. omega arith) (λ _. omega arith) (λ _. omega arith);
    }

    module _ (exists : t.0 < 1024) where
      pub add_stands : is_some (tally.seat t.0) ≡ true → Refused meaning tally room (Add t p) (Standing t)
      add_stands here = record {
        cause = stands here;
        first = add_each (Least 8) (λ past. omega arith) (λ _. omega arith) (λ _. omega arith) (λ _. omega arith);
      }

      module _ (gone : is_some (tally.seat t.0) ≡ false) where
        pub add_unable : ((m : ℕ) → mill_for meaning tally.service p.0 m ≡ false) → Refused meaning tally room (Add t p) (NoAbleMill t)
        add_unable none = record {
          cause = unable none;
          first = add_each (Least 10) (λ past. omega arith) (λ here. absurd (both_ways _ gone here)) (λ _. omega arith) (λ _. omega arith);
        }

        module _ (able : ((m : ℕ) → mill_for meaning tally.service p.0 m ≡ false) → ⊥) where
          pub add_accepted : standing tally ≤ room → Accepted meaning tally room (Add t p)
          add_accepted fits = add_each (λ _. ⊥) (λ past. omega arith) (both_ways _ gone) able (λ less. omega arith)

  -- ---- finishing

  module _ (t : Ticket) where
    pub done_each : (P : Refusal → Type 0)
        → (1024 ≤ t.0 → P (NoSuchTicket t))
        → (is_some (tally.seat t.0) ≡ false → P (NotStanding t))
        → (room < standing tally → P (ShortList (standing tally)))
        → (r : Refusal) → Cause meaning tally room (Done t) r → P r
    done_each P at7 at9 at14 _ (no_ticket_to_finish past) = at7 past
    done_each P at7 at9 at14 _ (away gone) = at9 gone
    done_each P at7 at9 at14 _ (short less) = at14 less

    pub done_range : 1024 ≤ t.0 → Refused meaning tally room (Done t) (NoSuchTicket t)
    done_range past = record {
      cause = no_ticket_to_finish past;
      first = done_each (Least 7) (λ _. omega arith) (λ _. omega arith) (λ _. omega arith);
    }

    module _ (exists : t.0 < 1024) where
      pub done_away : is_some (tally.seat t.0) ≡ false → Refused meaning tally room (Done t) (NotStanding t)
      done_away gone = record {
        cause = away gone;
        first = done_each (Least 9) (λ past. omega arith) (λ _. omega arith) (λ _. omega arith);
      }

      module _ (here : is_some (tally.seat t.0) ≡ true) where
        pub done_accepted : standing tally ≤ room → Accepted meaning tally room (Done t)
        done_accepted fits = done_each (λ _. ⊥) (λ past. omega arith) (λ gone. both_ways _ gone here) (λ less. omega arith)

  -- ---- withdrawing

  module _ (m : Mill) where
    pub withdraw_each : (P : Refusal → Type 0)
        → (meaning.mills ≤ m.0 → P (NoSuchMill m))
        → (tally.service m.0 ≡ false → P (SameService m))
        → ((t : Ticket) → Strands meaning tally m.0 t.0 → ((k : ℕ) → k < t.0 → Strands meaning tally m.0 k → ⊥) → P (Stranded t))
        → (room < standing tally → P (ShortList (standing tally)))
        → (r : Refusal) → Cause meaning tally room (Withdraw m) r → P r
    withdraw_each P at11 at12 at13 at14 _ (no_mill_to_withdraw past) = at11 past
    withdraw_each P at11 at12 at13 at14 _ (out idle) = at12 idle
    withdraw_each P at11 at12 at13 at14 _ (stranded {t = t} here lowest) = at13 t here lowest
    withdraw_each P at11 at12 at13 at14 _ (short less) = at14 less

    pub withdraw_range : meaning.mills ≤ m.0 → Refused meaning tally room (Withdraw m) (NoSuchMill m)
    withdraw_range past = record {
      cause = no_mill_to_withdraw past;
      first = withdraw_each (Least 11) (λ _. omega arith) (λ _. omega arith) (λ _ _ _. omega arith) (λ _. omega arith);
    }

    module _ (exists : m.0 < meaning.mills) where
      pub withdraw_out : tally.service m.0 ≡ false → Refused meaning tally room (Withdraw m) (SameService m)
      withdraw_out idle = record {
        cause = out idle;
        first = withdraw_each (Least 12) (λ past. omega arith) (λ _. omega arith) (λ _ _ _. omega arith) (λ _. omega arith);
      }

      module _ (busy : tally.service m.0 ≡ true) where
        pub withdraw_stranded : (t : Ticket) → Strands meaning tally m.0 t.0 → ((k : ℕ) → k < t.0 → Strands meaning tally m.0 k → ⊥)
            → Refused meaning tally room (Withdraw m) (Stranded t)
        withdraw_stranded t here lowest = record {
          cause = stranded here lowest;
          first = withdraw_each (Least 13) (λ past. omega arith) (λ idle. absurd (both_ways _ idle busy)) (λ _ _ _. omega arith) (λ _. omega arith);
        }

        module _ (free : (k : ℕ) → Strands meaning tally m.0 k → ⊥) where
          pub withdraw_accepted : standing tally ≤ room → Accepted meaning tally room (Withdraw m)
          withdraw_accepted fits = withdraw_each (λ _. ⊥) (λ past. omega arith) (λ idle. both_ways _ idle busy) (λ t here _. free t.0 here) (λ less. omega arith)

    -- ---- returning

    pub return_each : (P : Refusal → Type 0)
        → (meaning.mills ≤ m.0 → P (NoSuchMill m))
        → (tally.service m.0 ≡ true → P (SameService m))
        → (room < standing tally → P (ShortList (standing tally)))
        → (r : Refusal) → Cause meaning tally room (Return m) r → P r
    return_each P at11 at12 at14 _ (no_mill_to_return past) = at11 past
    return_each P at11 at12 at14 _ (serves busy) = at12 busy
    return_each P at11 at12 at14 _ (short less) = at14 less

    pub return_range : meaning.mills ≤ m.0 → Refused meaning tally room (Return m) (NoSuchMill m)
    return_range past = record {
      cause = no_mill_to_return past;
      first = return_each (Least 11) (λ _. omega arith) (λ _. omega arith) (λ _. omega arith);
    }

    module _ (exists : m.0 < meaning.mills) where
      pub return_serves : tally.service m.0 ≡ true → Refused meaning tally room (Return m) (SameService m)
      return_serves busy = record {
        cause = serves busy;
        first = return_each (Least 12) (λ past. omega arith) (λ _. omega arith) (λ _. omega arith);
      }

      module _ (idle : tally.service m.0 ≡ false) where
        pub return_accepted : standing tally ≤ room → Accepted meaning tally room (Return m)
        return_accepted fits = return_each (λ _. ⊥) (λ past. omega arith) (both_ways _ idle) (λ less. omega arith)

-- ---- sets of mills that have no member

false_since : (b : Bool) → (b ≡ true → ⊥) → b ≡ false
false_since b never = ⊎_elim (λ yes. absurd (never yes)) (λ e. e) (cases_Bool b)

none_in : (set : NumberSet) → ((m : ℕ) → has set m ≡ true → m < 64) → eqb (length (members set)) 0 ≡ true → (m : ℕ) → has set m ≡ false
none_in set few empty m =
    ⊎_elim (numbers_empty (has set) 64 (eqb-true (length (members set)) 0 empty) m) (λ past. false_since (has set m) (λ here. omega (arith, few m here))) (cases_lt m 64)

one_in : (set : NumberSet) → eqb (length (members set)) 0 ≡ false → ((m : ℕ) → has set m ≡ false) → ⊥
one_in set some none = eqb-false (length (members set)) 0 some (ap length (numbers-none (has set) 64 (λ m _. none m)))

module _ (table : Table) where
  -- ---- the seat of a ticket

  pub seat_known : (t : ℕ) (seat : Option Seat) → option_map place_of seat ≡ (tally_of table).seat t → is_some ((tally_of table).seat t) ≡ is_some seat
  seat_known t seat is = sym (ap is_some is) ∙ some_mapped seat
    where
      some_mapped : (o : Option Seat) → is_some (option_map place_of o) ≡ is_some o
      some_mapped None = refl
      some_mapped (Some at) = refl

  -- ---- the mills for a program

  abbrev may : ℕ → ℕ → Bool
  may = mill_for (meant table) (tally_of table).service

  module _ (p : ℕ) (set : NumberSet) (is : (m : ℕ) → has set m ≡ may p m) where
    set_few : (m : ℕ) → has set m ≡ true → m < 64
    set_few m here = service_few table m (and_parts ((meant table).able p m) ((tally_of table).service m) (sym (is m) ∙ here)).1

    pub unable_since : eqb (length (members set)) 0 ≡ true → (m : ℕ) → may p m ≡ false
    unable_since empty m = sym (is m) ∙ none_in set set_few empty m

    pub able_since : eqb (length (members set)) 0 ≡ false → ((m : ℕ) → may p m ≡ false) → ⊥
    able_since some none = one_in set some (λ m. is m ∙ none m)

  -- ---- the only mill for a program

  abbrev Only : ℕ → ℕ → Type 0
  Only mill p = (m : ℕ) → may p m ≡ true → m ≡ mill

  module _ (mill p : ℕ) (set others : NumberSet) (is : (m : ℕ) → has set m ≡ may p m) (fewer : (m : ℕ) → has others m ≡ (not (eqb m mill) && has set m)) where
    few : (m : ℕ) → has others m ≡ true → m < 64
    few m kept = set_few p set is m (and_parts (not (eqb m mill)) (has set m) (sym (fewer m) ∙ kept)).1

    pub only_since : eqb (length (members others)) 0 ≡ true → Only mill p
    only_since empty m able = ⊎_elim (λ same. same) (λ other. absurd (both_ways (has others m) (none_in others few empty m) (kept other))) (cases_eq m mill)
      where
        kept : (m ≡ mill → ⊥) → has others m ≡ true
        kept other = fewer m ∙ and_from (not (eqb m mill)) (has set m) (not_from_false (eqb m mill) (ne_eqb m mill other)) (is m ∙ able)

    pub empty_since : Only mill p → eqb (length (members others)) 0 ≡ true
    empty_since only = ⊎_elim (λ empty. empty) (λ some. absurd (one_in others some gone)) (cases_Bool (eqb (length (members others)) 0))
      where
        same : (m : ℕ) → m ≡ mill → (not (eqb m mill) && has set m) ≡ false
        same m e = and_left (not (eqb m mill)) (has set m) (not_from_true (eqb m mill) (eq-eqb m mill e))

        other : (m : ℕ) → (m ≡ mill → ⊥) → (not (eqb m mill) && has set m) ≡ false
        other m d = and_right (not (eqb m mill)) (has set m) (false_since (has set m) (λ able. d (only m (sym (is m) ∙ able))))

        gone : (m : ℕ) → has others m ≡ false
        gone m = fewer m ∙ ⊎_elim (same m) (other m) (cases_eq m mill)

  -- ---- tickets that stand on a mill and may stand on no other

  -- by the seat that was read, and what was found of it
  pub strands_seated : (mill ticket : ℕ) (seat : Option Seat) (found : Bool) {Q : Seat → Type 0} → option_map place_of seat ≡ (tally_of table).seat ticket → MatchOption seat (found ≡ false) Q
      → ((s : Seat) → Q s → IsTrue found ↔ ((s.mill.0 ≡ mill) × Only mill s.program.0)) → IsTrue found ↔ Strands (meant table) (tally_of table) mill ticket
  strands_seated mill ticket None found at not says =
      (λ yes. absurd (both_ways found not yes), λ strands. absurd (none-some mill (ap (option_map (λ place. place.mill)) at ∙ strands.on)))
  strands_seated mill ticket (Some s) found at q says =
      let means = says s q in
      let can_stand : (m : ℕ) → may s.program.0 m ≡ mill_of (meant table) (tally_of table).service ((tally_of table).seat ticket) m = λ m. ap (λ seat. mill_of (meant table) (tally_of table).service seat m) at in (
        λ yes. record {
          on = sym (ap (option_map (λ place. place.mill)) at) ∙ ap Some (means.0 yes).0;
          only = λ m can. (means.0 yes).1 m (can_stand m ∙ can);
        },
        λ strands. means.1 (same_Some s.mill.0 mill (ap (option_map (λ place. place.mill)) at ∙ strands.on), λ m can. strands.only m (sym (can_stand m) ∙ can)),
      )

  -- a ticket from 1,024 on strands nowhere
  strands_few : (mill ticket : ℕ) → Strands (meant table) (tally_of table) mill ticket → ticket < 1024
  strands_few mill ticket strands = placed_few table ticket mill strands.on

  abbrev Free : ℕ → ℕ → Type 0
  Free mill k = Strands (meant table) (tally_of table) mill k → ⊥

  abbrev Lowest : ℕ → Option Ticket → Type 0
  Lowest mill ticket = MatchOption ticket ((k : ℕ) → Free mill k) (λ t. Strands (meant table) (tally_of table) mill t.0 × ((k : ℕ) → k < t.0 → Free mill k))

  -- the first such number below 1,024 is the lowest such ticket of all
  pub lowest_since : (mill : ℕ) (number : Option ℕ) (ticket : Option Ticket)
      → MatchOption number ((k : ℕ) → 0 ≤ k → k < 1024 → Free mill k) (λ i. (0 ≤ i) × (i < 1024) × Strands (meant table) (tally_of table) mill i × ((k : ℕ) → 0 ≤ k → k < i → Free mill k))
      → ticket ≡ option_map (λ n. record { 0 = n }) number → Lowest mill ticket
  lowest_since mill None ticket none is = subst (Lowest mill) (sym is) (λ k strands. none k (omega arith) (strands_few mill k strands) strands)
  lowest_since mill (Some i) ticket first is = subst (Lowest mill) (sym is) (first.2, λ k less. first.3 k (omega arith) less)
