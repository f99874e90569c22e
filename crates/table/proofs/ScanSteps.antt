-- A count over the elements of a list is a count over its places.
use Rattle.std.proofs.Common.{◌≡◌, ℕ, zero, suc, ◌+◌, ◌≤◌, Bool, true, false, cond, List, length, get_or, take, count_by, is_some, Some, None, Option, sym, refl, ap, ◌∙◌, add-one, arith}
use Rattle.std.specs.Option.{option_map}
use Rattle.std.proofs.lemmas.List.{take_all}
use Rattle.std.proofs.lemmas.List.Sums.{count_by_more_yes, count_by_more_no}
use Rattle.semimatching.specs.Sums.{sum_to, count_to}
use Rattle.table.specs.declared.seat.Seat.{Seat}
use Rattle.table.specs.declared.table.Table.{Table}
use Rattle.table.specs.Held.{tally_of}
use Rattle.table.specs.Seats.{place_of}
use Rattle.table.specs.Tally.{standing}

module _ {X : Type 0} (test : X → Bool) (xs : List X) (d : X) (at : ℕ → Bool) (is : (k : ℕ) → test (get_or xs k d) ≡ at k) where
  one_further : (n : ℕ) → n + 1 ≤ length xs → (b : Bool) → at n ≡ b → count_by test (take (n + 1) xs) ≡ count_by test (take n xs) + cond b 1 0
  one_further n low true here = count_by_more_yes test xs n d (omega arith) (is n ∙ here)
  one_further n low false here = omega (arith, count_by_more_no test xs n d (omega arith) (is n ∙ here))

  count_taken : (n : ℕ) → n ≤ length xs → count_by test (take n xs) ≡ count_to n at
  unfolding sum_to
  count_taken zero low = refl
  count_taken (suc n) low =
      ap (λ k. count_by test (take k xs)) (sym (add-one n)) ∙ one_further n (omega arith) (at n) refl ∙ ap (λ k. k + cond (at n) 1 0) (count_taken n (omega arith))

  pub count_places : (n : ℕ) → length xs ≡ n → count_by test xs ≡ count_to n at
  count_places n all = ap (count_by test) (sym (take_all n xs (omega arith))) ∙ count_taken n (omega arith)

-- as many tickets stand as seats are taken
pub count_seats : (table : Table) → count_by is_some table.seats ≡ standing (tally_of table)
count_seats table = count_places is_some table.seats None (λ t. is_some ((tally_of table).seat t)) (λ t. taken (get_or table.seats t None)) 1024 table.whole
  where
    taken : (seat : Option Seat) → is_some seat ≡ is_some (option_map place_of seat)
    taken None = refl
    taken (Some seat) = refl
