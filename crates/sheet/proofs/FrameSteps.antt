-- The three faults of a line, one after the other, and the frame that is left when none is found.
use Rattle.std.proofs.Common.{◌≡◌, ℕ, ◌-◌, ◌*◌, ◌/◌, ◌%◌, true, false, List, length, get_or, take, drop, Ok, Err, sum, sym, refl, ap, ◌∙◌}
use Rattle.std.proofs.lemmas.Bool.{cond-true, cond-false, eq-eqb, ne_eqb}
use Rattle.vocabulary.specs.declared.refusal.Refusal.TheVariants.{BadLine, WrongCount, WrongSum}
use Rattle.sheet.specs.Digits.{bytes_of}
use Rattle.sheet.specs.Frames.{well_formed, framed, frame_in}
use Rattle.sheet.proofs.ByteLaws.{bytes_drop, bytes_take}
use Rattle.sheet.proofs.DigitLaws.{length_bytes}

module _ (i : ℕ) (cs : List ℕ) where
  pub bad_line : well_formed cs ≡ false → frame_in i cs ≡ Err (BadLine i)
  bad_line w = cond-false (well_formed cs) _ _ w

  module _ (w : well_formed cs ≡ true) where
    count_is : length cs / 2 - 3 ≡ length (bytes_of cs) - 3
    count_is = ap (λ n. n - 3) (sym (length_bytes cs))

    pub wrong_count : (get_or (bytes_of cs) 1 0 ≡ length cs / 2 - 3 → ⊥) → frame_in i cs ≡ Err (WrongCount i)
    wrong_count n = cond-true (well_formed cs) _ _ w ∙ cond-false _ _ _ (ne_eqb _ _ (λ e. n (e ∙ sym count_is)))

    module _ (c : get_or (bytes_of cs) 1 0 ≡ length cs / 2 - 3) where
      pub wrong_sum : (sum (bytes_of cs) % 256 ≡ 0 → ⊥) → frame_in i cs ≡ Err (WrongSum i)
      wrong_sum n = cond-true (well_formed cs) _ _ w ∙ cond-true _ _ _ (eq-eqb _ _ (c ∙ count_is)) ∙ cond-false _ _ _ (ne_eqb _ _ n)

      pub right_frame : sum (bytes_of cs) % 256 ≡ 0 → frame_in i cs ≡ Ok (framed (bytes_of cs))
      right_frame s = cond-true (well_formed cs) _ _ w ∙ cond-true _ _ _ (eq-eqb _ _ (c ∙ count_is)) ∙ cond-true _ _ _ (eq-eqb _ _ s)

-- the payload's digits write the payload
pub payload_digits : (cs : List ℕ) (n : ℕ) → n ≡ length cs / 2 - 3 → bytes_of (take (2 * n) (drop 4 cs)) ≡ take (length (bytes_of cs) - 3) (drop 2 (bytes_of cs))
payload_digits cs n e =
    let long : n ≡ length (bytes_of cs) - 3 = e ∙ ap (λ k. k - 3) (sym (length_bytes cs)) in
    bytes_take n (2 * n) (drop 4 cs) refl ∙ ap (take n) (bytes_drop 2 4 cs refl) ∙ ap (λ k. take k (drop 2 (bytes_of cs))) long
