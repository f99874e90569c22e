-- The tickets of a withdrawn mill are placed again, one after the other.
use Rattle.std.proofs.Common.{◌≡◌, ℕ, ◌+◌, ◌≤◌, Bool, true, false, List, [], ◌∷◌, ◌++◌, Some, None, sym, refl, ap, ◌∙◌, subst, arith}
use Rattle.std.specs.Option.{option_map}
use Rattle.std.proofs.lemmas.List.{append-nil}
use Rattle.std.proofs.lemmas.Bool.{cond-true, cond-false, eq-eqb}
use Rattle.sets.specs.Sets.{numbers}
use Rattle.sets.proofs.Rising.{numbers_more}
use Rattle.capability.specs.Meaning.{Meaning}
use Rattle.semimatching.specs.Placements.{stands_on}
use Rattle.table.specs.Held.{meant, tally_of}
use Rattle.table.specs.Tally.{Place, Tally, mill_for, placement, serving}
use Rattle.table.specs.declared.table.Table.{Table}
use Rattle.search.specs.Rules.{PlacedByRule, EvenIn}
use Rattle.board.specs.Rules.{cleared, PlacedAgain, all, next}
use Rattle.board.proofs.RecordRules.{no_seat, placed_others, placed_service}
use Rattle.board.proofs.TallyLaws.{mill_at}

-- one ticket more
again_push : {meaning : Meaning} {before : Tally} {ts : List ℕ} {start tally after : Tally} (t : ℕ) (place : Place) (mill : ℕ) → PlacedAgain meaning before ts start tally
    → before.seat t ≡ Some place → PlacedByRule meaning tally t place.program after mill → PlacedAgain meaning before (ts ++ t ∷ []) start after
again_push t place mill all stood rule = next place mill stood rule all
again_push t place mill (next p m was first rest) stood rule = next p m was first (again_push t place mill rest stood rule)

-- whether a ticket stood on the mill
abbrev was_on : Table → ℕ → ℕ → Bool
was_on before mill t = stands_on (placement (tally_of before) t) mill

-- those below n that stood on the mill are placed again, and the others of it are still off
pub record Replacing (before start : Table) (mill n : ℕ) (table : Table) : Type 0 where
  pub meaning : meant table ≡ meant start
  pub so_far : PlacedAgain (meant start) (tally_of before) (numbers (was_on before mill) n) (tally_of start) (tally_of table)
  pub later : (t : ℕ) → n ≤ t → was_on before mill t ≡ true → (tally_of table).seat t ≡ None
  pub service : (tally_of table).service ≡ (tally_of start).service
  pub even : EvenIn (meant start) (tally_of start) → EvenIn (meant table) (tally_of table)

pub replacing_start : (before start : Table) (mill : ℕ) → tally_of start ≡ serving (cleared (tally_of before) mill) mill false → Replacing before start mill 0 start
unfolding numbers
replacing_start before start mill off = record {
  meaning = refl;
  so_far = all;
  later = λ t _ on. ap (λ tally. tally.seat t) off ∙ cond-true (was_on before mill t) None ((tally_of before).seat t) on;
  service = refl;
  even = λ even. even;
}

module _ (before start : Table) (mill n : ℕ) (table : Table) (so : Replacing before start mill n table) where
  -- ---- the ticket n stood on the mill, and is placed again

  module _ (place : Place) (stood : (tally_of before).seat n ≡ Some place) (on : place.mill ≡ mill) where
    was_on_lem : was_on before mill n ≡ true
    was_on_lem = ap (λ seat. stands_on (mill_at seat) mill) stood ∙ eq-eqb place.mill mill on

    pub replacing_some : meant start ≡ meant before
        → ((t : ℕ) (place : Place) → (tally_of before).seat t ≡ Some place → place.mill ≡ mill → (m : ℕ) × (mill_for (meant before) (tally_of start).service place.program m ≡ true))
        → (m : ℕ) × (mill_for (meant table) (tally_of table).service place.program m ≡ true)
    replacing_some same free =
        let found = free n place stood on in
        (found.0, (λ i. mill_for ((so.meaning ∙ same) i) (so.service i) place.program found.0) ∙ found.1)

    pub replacing_more : (told : ℕ) (then after : Table) → meant then ≡ meant table → PlacedByRule (meant table) (tally_of table) n place.program (tally_of then) told
        → (EvenIn (meant table) (tally_of table) → EvenIn (meant then) (tally_of then)) → after ≡ then → Replacing before start mill (n + 1) after
    replacing_more told then after meaning rule even same = subst (Replacing before start mill (n + 1)) (sym same) (record {
      meaning = meaning ∙ so.meaning;
      so_far =
          subst (λ ts. PlacedAgain (meant start) (tally_of before) ts (tally_of start) (tally_of then))
          (sym (numbers_more (was_on before mill) n ∙ ap (λ ts. numbers (was_on before mill) n ++ ts) (cond-true (was_on before mill n) (n ∷ []) [] was_on_lem)))
          (again_push n place told so.so_far stood (subst (λ m. PlacedByRule m (tally_of table) n place.program (tally_of then) told) so.meaning rule));
      later = λ t high on.
          no_seat ((tally_of then).seat t)
          (placed_others (meant table) (tally_of table) n place.program (tally_of then) told rule t (λ e. omega arith)
          ∙ ap (option_map (λ p. p.program)) (so.later t (omega arith) on));
      service = placed_service (meant table) (tally_of table) n place.program (tally_of then) told rule ∙ so.service;
      even = λ start_even. even (so.even start_even);
    })

  -- ---- it stood elsewhere or not at all

  pub replacing_skip : (after : Table) → was_on before mill n ≡ false → after ≡ table → Replacing before start mill (n + 1) after
  replacing_skip after elsewhere same = subst (Replacing before start mill (n + 1)) (sym same) (record {
    meaning = so.meaning;
    so_far =
        subst (λ ts. PlacedAgain (meant start) (tally_of before) ts (tally_of start) (tally_of table))
        (sym (numbers_more (was_on before mill) n ∙ ap (λ ts. numbers (was_on before mill) n ++ ts) (cond-false (was_on before mill n) (n ∷ []) [] elsewhere) ∙ append-nil _))
        so.so_far;
    later = λ t high. so.later t (omega arith);
    service = so.service;
    even = so.even;
  })
