-- Tickets without a record, between those that have one.
use Rattle.std.proofs.Common.{◌≡◌, ℕ, zero, suc, ◌+◌, ◌<◌, ◌≤◌, List, [], ◌++◌, ap, ◌∙◌, add-zero, arith}
use Rattle.std.proofs.lemmas.List.{append-nil}
use Rattle.table.specs.Tally.{Tally, placement}
use Rattle.board.specs.Records.{record_of}
use Rattle.board.specs.declared.moves.Move.{Move}
use Rattle.board.proofs.RecordLaws.{records_to, records_more}

module _ (before after : Tally) where
  -- the record of a ticket, if it has one
  abbrev pub record_at : ℕ → List Move
  record_at t = record_of t (placement before t) (placement after t)

  -- where k tickets from n on have none, the records stay
  pub records_gap : (n k : ℕ) → ((t : ℕ) → n ≤ t → t < n + k → record_at t ≡ []) → records_to before after (n + k) ≡ records_to before after n
  records_gap n zero none = ap (records_to before after) (add-zero n)
  records_gap n (suc k) none =
      ap (records_to before after) (let e : n + suc k ≡ (n + k) + 1 = omega arith in e)
      ∙ records_more before after (n + k)
      ∙ ap (λ rs. records_to before after (n + k) ++ rs) (none (n + k) (omega arith) (omega arith))
      ∙ append-nil (records_to before after (n + k))
      ∙ records_gap n k (λ t low high. none t low (omega arith))
