-- Where the first line of a text ends, and that a text without a line feed in reach has no good line.
use Rattle.std.proofs.Common.{◌≡◌, ℕ, ◌+◌, ◌-◌, ◌%◌, ◌<◌, min, false, eqb, leb, List, ◌∷◌, ◌++◌, length, get_or, take, drop, Err, sym, refl, ap, ◌∙◌, subst, ⊎_elim, add-one, arith, length-append, length-drop, take-append-drop, length-take-le, drop-cons, get_or-take}
use Rattle.std.proofs.ByRecursion.{All-from_get_or}
use Rattle.std.proofs.lemmas.List.{get_or_at, take_rest}
use Rattle.std.proofs.lemmas.Bool.{and_right, lt-leb, cases_lt}
use Rattle.vocabulary.specs.declared.refusal.Refusal.TheVariants.{BadLine}
use Rattle.sheet.specs.Digits.{all_digits}
use Rattle.sheet.specs.Lines.{Lines, over, open_ended, line, lines_of}
use Rattle.sheet.specs.Frames.{well_formed, first_frame}
use Rattle.sheet.specs.Content.{EndsAt, Split}
use Rattle.sheet.proofs.LineLaws.{lines_line, text_of, text_again}
use Rattle.sheet.proofs.FrameSteps.{bad_line}

-- a text splits at its first line feed
pub first_line : (text : List ℕ) (n : ℕ) → EndsAt text n → lines_of text ≡ line (take n text) (lines_of (drop (n + 1) text))
first_line text n e =
    let within = e.inside in
    let long = length-take-le n text (omega arith) in
    let plain = All-from_get_or (λ c. c ≡ 10 → ⊥) (take n text) 0 (λ i h. let lt : i < n = omega arith in subst (λ c. c ≡ 10 → ⊥) (sym (get_or-take n text i 0 lt)) (e.none i lt)) in
    let split : text ≡ take n text ++ (10 ∷ drop (n + 1) text) = sym (take-append-drop n text) ∙ ap (λ t. take n text ++ t) (drop-cons text n 0 within ∙ (λ j. e.feed j ∷ drop (sym (add-one n) j) text)) in
    ap lines_of split ∙ lines_line (take n text) (drop (n + 1) text) plain

-- a line that is too long is a bad line
long_line : (cs : List ℕ) → 516 < length cs → well_formed cs ≡ false
long_line cs h = and_right (all_digits cs) _ (and_right (eqb (length cs % 2) 0) _ (and_right (leb 6 (length cs)) _ (lt-leb (length cs) 516 h)))

no_frame : (i : ℕ) (text : List ℕ) (l : Lines) → lines_of text ≡ l → ((k : ℕ) → k < min 517 (length text) → get_or text k 0 ≡ 10 → ⊥) → first_frame i l ≡ Err (BadLine i)
no_frame i text over e none = refl
no_frame i text (open_ended cs) e none = refl
no_frame i text (line cs rest) e none =
    let whole : text ≡ cs ++ (10 ∷ text_of rest) = sym (text_again text) ∙ ap text_of e in
    let long = ap length whole ∙ length-append cs (10 ∷ text_of rest) in
    let feed : get_or text (length cs) 0 ≡ 10 = ap (λ t. get_or t (length cs) 0) whole ∙ get_or_at cs 10 (text_of rest) 0 (length cs) refl in
    ⊎_elim
    (λ short. absurd (none (length cs) (omega arith) feed))
    (λ far. bad_line i cs (long_line cs (omega arith)))
    (cases_lt (length cs) 517)

pub no_line : (i : ℕ) (text : List ℕ) → ((k : ℕ) → k < min 517 (length text) → get_or text k 0 ≡ 10 → ⊥) → first_frame i (lines_of text) ≡ Err (BadLine i)
no_line i text none = no_frame i text (lines_of text) refl none

-- the parts of the text as the reader cuts it at its first line feed
pub split_at : (text : List ℕ) (n : ℕ) → EndsAt text n → Split text (take n text) (take (length text - (n + 1)) (drop (n + 1) text))
split_at text n ends =
    let within = ends.inside in
    record {
      line_is = first_line text n ends ∙ (λ j. line (take n text) (lines_of (sym (take_rest text (n + 1)) j)));
      shorter = omega (arith, ap length (take_rest text (n + 1)), length-drop (n + 1) text);
    }
