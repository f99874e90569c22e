-- The records of the tickets below a bound: how many they are, and how one ticket more adds to them.
use Rattle.std.proofs.Common.{◌≡◌, ℕ, zero, suc, ◌+◌, ◌<◌, ◌≤◌, Bool, true, false, cond, not, eqb, List, [], ◌∷◌, ◌++◌, length, is_some, Some, None, Option, sym, refl, ap, ◌∙◌, ⊎_elim, add-one, arith}
use Rattle.std.specs.List.{range_with_len, flat_map}
use Rattle.std.specs.Option.{option_map}
use Rattle.std.proofs.lemmas.List.FromFn.{map-range_with_len_more}
use Rattle.std.proofs.lemmas.List.{map-id, flat_map_more, length-append}
use Rattle.std.proofs.lemmas.Bool.{cases_lt}
use Rattle.semimatching.specs.Sums.{sum_to, count_to}
use Rattle.semimatching.proofs.Carrying.{differ}
use Rattle.semimatching.proofs.Sums.{sum_le, count_le}
use Rattle.table.specs.Tally.{Place, Tally, placement, standing}
use Rattle.board.specs.Records.{record_of, records_of}
use Rattle.board.specs.declared.moves.Move.{Move}

-- the records of the tickets below n
unfoldable pub records_to : Tally → Tally → ℕ → List Move
records_to before after n = flat_map (λ t. record_of t (placement before t) (placement after t)) (range_with_len 0 n)

-- ---- one ticket

pub length_record : (t : ℕ) (from to : Option ℕ) → length (record_of t from to) ≡ cond (differ from to) 1 0
length_record t None to = refl
length_record t (Some a) None = refl
length_record t (Some a) (Some b) = go (eqb a b) (record { ticket = record { 0 = t }; from = record { 0 = a }; to = record { 0 = b } })
  where
    go : (same : Bool) (r : Move) → length (cond same [] (r ∷ [])) ≡ cond (not same) 1 0
    go true r = refl
    go false r = refl

-- only a ticket that stands has a record
record_few : (seat : Option Place) (to : Option ℕ) → cond (differ (option_map (λ place. place.mill) seat) to) 1 0 ≤ cond (is_some seat) 1 0
record_few None to = omega arith
record_few (Some place) None = omega arith
record_few (Some place) (Some m) = go (eqb place.mill m)
  where
    go : (same : Bool) → cond (not same) 1 0 ≤ 1
    go true = omega arith
    go false = omega arith

-- ---- the tickets below a bound

counting_more : (n : ℕ) → range_with_len 0 (n + 1) ≡ range_with_len 0 n ++ n ∷ []
counting_more n = sym (map-id (range_with_len 0 (n + 1))) ∙ map-range_with_len_more (λ k. k) 0 n n (omega arith) ∙ ap (λ l. l ++ n ∷ []) (map-id (range_with_len 0 n))

module _ (before after : Tally) where
  pub records_none : records_to before after 0 ≡ []
  unfolding records_to
  records_none = refl

  pub records_more : (n : ℕ) → records_to before after (n + 1) ≡ records_to before after n ++ record_of n (placement before n) (placement after n)
  unfolding records_to
  records_more n =
      let each : ℕ → List Move = λ t. record_of t (placement before t) (placement after t) in
      ap (flat_map each) (counting_more n) ∙ sym (flat_map_more each [] (range_with_len 0 n) n)

  -- those of all tickets
  pub records_all : records_to before after 1024 ≡ records_of before after
  unfolding records_to records_of
  records_all = refl

  pub length_records_more : (n : ℕ) → length (records_to before after (n + 1)) ≡ length (records_to before after n) + length (record_of n (placement before n) (placement after n))
  length_records_more n = ap length (records_more n) ∙ length-append (records_to before after n) (record_of n (placement before n) (placement after n))

  length_records_to : (n : ℕ) → length (records_to before after n) ≡ count_to n (λ t. differ (placement before t) (placement after t))
  unfolding sum_to
  length_records_to zero = ap length records_none
  length_records_to (suc n) =
      omega (
        arith,
        ap (λ k. length (records_to before after k)) (add-one n),
        length_records_more n,
        length_record n (placement before n) (placement after n),
        length_records_to n,
      )

  pub length_records : length (records_of before after) ≡ count_to 1024 (λ t. differ (placement before t) (placement after t))
  length_records = ap length (sym records_all) ∙ length_records_to 1024

  -- no more records than tickets stand
  pub records_few : length (records_of before after) ≤ standing before
  records_few =
      omega (
        arith,
        length_records,
        sum_le 1024 (λ t. cond (differ (placement before t) (placement after t)) 1 0) (λ t. cond (is_some (before.seat t)) 1 0) (λ t h. record_few (before.seat t) (placement after t)),
      )

  pub records_at_most : (n : ℕ) → length (records_to before after n) ≤ n
  records_at_most n = omega (arith, length_records_to n, count_le n (λ t. differ (placement before t) (placement after t)))

  -- a greater bound has no fewer records
  pub records_short : (n m : ℕ) → n ≤ m → length (records_to before after n) ≤ length (records_to before after m)
  records_short n zero le = omega (arith, ap (λ k. length (records_to before after k)) (let e : n ≡ 0 = omega arith in e))
  records_short n (suc m) le =
      ⊎_elim
      (λ (below : n < suc m). omega (arith, records_short n m (omega arith), ap (λ k. length (records_to before after k)) (add-one m), length_records_more m))
      (λ (above : suc m ≤ n). omega (arith, ap (λ k. length (records_to before after k)) (let e : n ≡ suc m = omega arith in e)))
      (cases_lt n (suc m))
