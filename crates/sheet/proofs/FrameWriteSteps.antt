-- The steps of writing a frame: the sum of its bytes, and its parts one behind the other.
use Rattle.std.proofs.Common.{◌≡◌, ℕ, ◌+◌, ◌%◌, ◌<◌, List, [], ◌∷◌, ◌++◌, length, sum, sym, ap, ◌∙◌, arith}
use Rattle.std.specs.List.{flat_map, fold}
use Rattle.std.proofs.lemmas.List.{append_assoc, flat_map_more}
use Rattle.std.proofs.lemmas.List.Sums.{sum_by-cons}
use Rattle.sheet.specs.Digits.{digits_for}
use Rattle.sheet.specs.Frames.{Frame, check_for, head_bytes, frame_text}

-- sums that wrap are the sum less the multiples of 256
wrapped : (total : ℕ) (bytes : List ℕ) → total < 256 → fold (λ t b. (t + b) % 256) total bytes ≡ (total + sum bytes) % 256
wrapped total [] small = omega arith
wrapped total (b ∷ bytes) small = wrapped ((total + b) % 256) bytes (omega arith) ∙ omega (arith, sum_by-cons (λ x. x) b bytes)

pub fold_sum : (bytes : List ℕ) → fold (λ t b. (t + b) % 256) 0 bytes ≡ sum bytes % 256
fold_sum bytes = wrapped 0 bytes (omega arith) ∙ omega arith

-- a frame: kind, count, payload, check byte and line feed
module _ (kind : ℕ) (payload : List ℕ) where
  abbrev f : Frame
  f = record { kind = kind; payload = payload }

  -- the byte that brings the wrapping sum to 0
  pub check_is : (check total : ℕ) → check < 256 → total ≡ sum payload % 256 → (check + ((kind + length payload) % 256 + total) % 256) % 256 ≡ 0 → check ≡ check_for (head_bytes f)
  check_is check total small is zero_sum =
      omega (arith, sum_by-cons (λ b. b) kind (length payload ∷ payload), sum_by-cons (λ b. b) (length payload) payload)

  pub frame_parts : (check : ℕ) → check ≡ check_for (head_bytes f)
      → digits_for kind ++ (digits_for (length payload) ++ (flat_map digits_for payload ++ (digits_for check ++ 10 ∷ []))) ≡ frame_text f
  frame_parts check is =
      ap (λ t. digits_for kind ++ (digits_for (length payload) ++ t))
      (sym (append_assoc (flat_map digits_for payload) (digits_for check) (10 ∷ []))
      ∙ ap (λ t. t ++ 10 ∷ []) (flat_map_more digits_for [] payload check ∙ ap (λ c. flat_map digits_for (payload ++ c ∷ [])) is))
