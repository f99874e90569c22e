-- Requests are performed in turn.
use Rattle.std.proofs.Common.{◌≡◌, ℕ, ◌+◌, ◌<◌, ◌≤◌, List, [], ◌∷◌, ◌++◌, length, get_or, take, set, sym, refl, ap, ◌∙◌, subst, subst₂, arith}
use Rattle.std.proofs.lemmas.List.{take_more, take_more_set, get_or-set_other, length-take, map-append}
use Rattle.table.specs.Held.{meant, tally_of}
use Rattle.table.specs.Tally.{opening}
use Rattle.table.specs.declared.table.Table.{Table}
use Rattle.board.specs.Requests.{turn_of, turns_of, Asked, RanRequests}
use Rattle.board.specs.Histories.{HasRun}
use Rattle.board.specs.declared.request.Request.{Request}
use Rattle.board.proofs.Running.{ran_none, ran_more}

turns_of_push : (asked answered : List Request) (r r' : Request) → length asked ≡ length answered → turns_of (asked ++ r ∷ []) (answered ++ r' ∷ []) ≡ turns_of asked answered ++ turn_of r r' ∷ []
turns_of_push [] [] r r' long = refl
turns_of_push [] (b ∷ answered) r r' long = absurd (omega arith)
turns_of_push (a ∷ asked) [] r r' long = absurd (omega arith)
turns_of_push (a ∷ asked) (b ∷ answered) r r' long = ap (λ turns. turn_of a b ∷ turns) (turns_of_push asked answered r r' (omega arith))

-- the first n requests are answered, and the others are as they were asked
pub record Running (start : Table) (asked : List Request) (n : ℕ) (table : Table) (requests : List Request) : Type 0 where
  pub meaning : meant table ≡ meant start
  pub ran : RanRequests (meant start) (take n asked) (take n requests) (tally_of table)
  pub rest : (k : ℕ) (d : Request) → n ≤ k → get_or requests k d ≡ get_or asked k d

pub running_start : (start : Table) (asked : List Request) → tally_of start ≡ opening (meant start) → Running start asked 0 start asked
running_start start asked opens = record {
  meaning = refl;
  ran = record {
    calls = refl;
    ran = subst (HasRun (meant start) []) (sym opens) (ran_none (meant start));
  };
  rest = λ k d high. refl;
}

module _ (start : Table) (asked : List Request) (n : ℕ) (table : Table) (requests : List Request) (so : Running start asked n table requests)
    (long : length requests ≡ length asked) where
  module _ (low : n < length asked) (d r' : Request) (after : Table) (meaning : meant after ≡ meant table) (one : Asked (meant table) (tally_of table) (get_or requests n d) r' (tally_of after)) where
    abbrev r : Request
    r = get_or requests n d

    asked_more : take (n + 1) asked ≡ take n asked ++ r ∷ []
    asked_more = take_more asked n d low ∙ ap (λ s. take n asked ++ s ∷ []) (sym (so.rest n d (omega arith)))

    answered_more : take (n + 1) (set requests n r') ≡ take n requests ++ r' ∷ []
    answered_more = take_more_set requests n r' (omega arith)

    ran_request : RanRequests (meant start) (take n asked ++ r ∷ []) (take n requests ++ r' ∷ []) (tally_of after)
    ran_request = record {
      calls =
          map-append (λ request. request.call) (take n requests) (r' ∷ [])
          ∙ (λ i. so.ran.calls i ++ one.call i ∷ [])
          ∙ sym (map-append (λ request. request.call) (take n asked) (r ∷ []));
      ran =
          subst (λ turns. HasRun (meant start) turns (tally_of after))
          (sym (turns_of_push (take n asked) (take n requests) r r' (omega (arith, length-take n asked, length-take n requests))))
          (ran_more (meant start) (turns_of (take n asked) (take n requests)) (tally_of table) so.ran.ran (turn_of r r') (tally_of after)
          (subst (λ m. Asked m (tally_of table) r r' (tally_of after)) so.meaning one).outcome);
    }

    pub running_more : Running start asked (n + 1) after (set requests n r')
    running_more = record {
      meaning = meaning ∙ so.meaning;
      ran = subst₂ (λ from to. RanRequests (meant start) from to (tally_of after)) (sym asked_more) (sym answered_more) ran_request;
      rest = λ k e high. let ne : k ≡ n → ⊥ = λ same. omega arith in get_or-set_other requests n k r' e ne ∙ so.rest k e (omega arith);
    }
