-- The loop that writes records to the front of a list: what stands there when the tickets below n have been gone through.
use Rattle.std.proofs.Common.{◌≡◌, ℕ, ◌+◌, ◌-◌, ◌<◌, ◌≤◌, List, [], ◌∷◌, ◌++◌, length, get_or, drop, set, Option, sym, refl, ap, ◌∙◌, subst₂, arith}
use Rattle.std.specs.Option.{option_map}
use Rattle.std.proofs.lemmas.List.{append-nil, append_assoc, length-append, length-drop, length_push, set-append_right, drop_more}
use Rattle.table.specs.Seats.{place_of}
use Rattle.table.specs.Tally.{Tally}
use Rattle.table.specs.declared.seat.Seat.{Seat}
use Rattle.board.specs.Records.{record_of, records_of}
use Rattle.board.specs.declared.moves.Move.{Move}
use Rattle.board.proofs.RecordLaws.{records_to, records_none, records_more, records_all, records_short, records_at_most}

-- so many records stand at the front, and behind them what stood there
pub record Written (before after : Tally) (list : List Move) (n count : ℕ) (list' : List Move) : Type 0 where
  pub counted : count ≡ length (records_to before after n)
  pub front : list' ≡ records_to before after n ++ drop count list

-- the record of a ticket's seats
abbrev pub seats_record : ℕ → Option Seat → Option Seat → List Move
seats_record n from to = record_of n (option_map (λ place. place.mill) (option_map place_of from)) (option_map (λ place. place.mill) (option_map place_of to))

-- one record more, over the first of what is behind
put_front : (rs list : List Move) (r : Move) → length rs < length list → set (rs ++ drop (length rs) list) (length rs) r ≡ (rs ++ r ∷ []) ++ drop (length rs + 1) list
put_front rs list r room =
    ap (λ rest. set (rs ++ rest) (length rs) r) (drop_more list (length rs) r room)
    ∙ set-append_right rs _ (length rs) (length rs) r refl (omega arith)
    ∙ ap (λ k. rs ++ set (get_or list (length rs) r ∷ drop (length rs + 1) list) k r) (let e : length rs - length rs ≡ 0 = omega arith in e)
    ∙ sym (append_assoc rs (r ∷ []) (drop (length rs + 1) list))

module _ (before after : Tally) (list : List Move) where
  pub written_none : Written before after list 0 0 list
  written_none = record {
    counted = ap length (sym (records_none before after));
    front = ap (λ rs. rs ++ list) (sym (records_none before after));
  }

  module _ (n count : ℕ) (list' : List Move) (so_far : Written before after list n count list') where
    pub written_few : n ≤ 1024 → count ≤ 1024
    written_few few = omega (arith, so_far.counted, records_at_most before after n)

    -- ---- one ticket more, by what was read of its seats

    module _ (from to : Option Seat) (was : option_map place_of from ≡ before.seat n) (is : option_map place_of to ≡ after.seat n) where
      next : records_to before after (n + 1) ≡ records_to before after n ++ seats_record n from to
      next =
          records_more before after n
          ∙ (λ i. records_to before after n ++ record_of n (option_map (λ place. place.mill) (sym was i)) (option_map (λ place. place.mill) (sym is i)))

      -- it has no record
      pub written_same : seats_record n from to ≡ [] → (count' : ℕ) (list'' : List Move) → count' ≡ count → list'' ≡ list' → Written before after list (n + 1) count' list''
      written_same none count' list'' stays same =
          let rs : records_to before after (n + 1) ≡ records_to before after n = next ∙ ap (λ rs. records_to before after n ++ rs) none ∙ append-nil (records_to before after n) in
          subst₂ (Written before after list (n + 1)) (sym stays) (sym same) (record {
            counted = so_far.counted ∙ ap length (sym rs);
            front = so_far.front ∙ ap (λ l. l ++ drop count list) (sym rs);
          })

      -- it has one, and there is room for it
      module _ (room : length (records_of before after) ≤ length list) (below : n < 1024) (r : Move) (one : seats_record n from to ≡ r ∷ []) where
        one_more : records_to before after (n + 1) ≡ records_to before after n ++ r ∷ []
        one_more = next ∙ ap (λ rs. records_to before after n ++ rs) one

        within : count < length list
        within =
            omega (
              arith,
              so_far.counted,
              ap length one_more,
              length_push (records_to before after n) r,
              records_short before after (n + 1) 1024 (omega arith),
              ap length (records_all before after),
            )

        pub written_room : count < length list'
        written_room =
            omega (arith, within, so_far.counted, ap length so_far.front, length-append (records_to before after n) (drop count list), length-drop count list)

        put_over : set list' count r ≡ records_to before after (n + 1) ++ drop (count + 1) list
        put_over =
            let rs = records_to before after n in
            let c = so_far.counted in
            ap (λ l. set l count r) so_far.front ∙ ap (λ k. set (rs ++ drop k list) k r) c ∙ put_front rs list r (omega (arith, within, c))
            ∙ ap (λ k. (rs ++ r ∷ []) ++ drop (k + 1) list) (sym c) ∙ ap (λ l. l ++ drop (count + 1) list) (sym one_more)

        pub written_more : (place count' : ℕ) (list'' : List Move) → place ≡ count → count' ≡ count + 1 → list'' ≡ set list' place r → Written before after list (n + 1) count' list''
        written_more place count' list'' here counts puts =
            subst₂ (Written before after list (n + 1)) (sym counts) (sym (puts ∙ ap (λ k. set list' k r) here)) (record {
              counted = omega (arith, so_far.counted, ap length one_more, length_push (records_to before after n) r);
              front = put_over;
            })

    -- ---- all tickets

    module _ (reached : n ≡ 1024) where
      all_of : records_to before after n ≡ records_of before after
      all_of = ap (records_to before after) reached ∙ records_all before after

      pub written_count : count ≡ length (records_of before after)
      written_count = so_far.counted ∙ ap length all_of

      pub written_all : list' ≡ records_of before after ++ drop (length (records_of before after)) list
      written_all = so_far.front ∙ ap (λ rs. rs ++ drop count list) all_of ∙ ap (λ k. records_of before after ++ drop k list) written_count
