-- A text that is one line, and a text that is not.
use Rattle.std.proofs.Common.{◌≡◌, ℕ, Bool, true, false, cond, eqb, List, [], ◌∷◌, length, Bor, Err, MatchOption, sym, refl, ap, ◌∙◌, arith}
use Rattle.std.specs.Bool.{then_some}
use Rattle.std.proofs.lemmas.Bool.{eqb-true, eqb-false}
use Rattle.vocabulary.specs.declared.refusal.Refusal.TheVariants.{BadLine}
use Rattle.sheet.specs.Content.{Split}
use Rattle.sheet.specs.Frames.{frame_in, first_frame, only_frame}
use Rattle.sheet.specs.Lines.{Lines, over, open_ended, line, fronted, lines_of}

-- where the first line is faulty as a line, so is the whole
pub only_none : (i : ℕ) (lines : Lines) → first_frame i lines ≡ Err (BadLine i) → only_frame i lines ≡ Err (BadLine i)
only_none i over bad = refl
only_none i (open_ended cs) bad = refl
only_none i (line cs over) bad = bad
only_none i (line cs (open_ended more)) bad = refl
only_none i (line cs (line more rest)) bad = refl

-- a line and something behind it
some_lines : (i : ℕ) (cs : List ℕ) (c : ℕ) (feed : Bool) (rest : Lines) → only_frame i (line cs (cond feed (line [] rest) (fronted c rest))) ≡ Err (BadLine i)
some_lines i cs c true rest = refl
some_lines i cs c false over = refl
some_lines i cs c false (open_ended more) = refl
some_lines i cs c false (line more rest) = refl

-- whether something stands behind the first line decides
pub only_checked : (text : List ℕ) (cs : Bor (List ℕ)) (rest : List ℕ) → Split text cs.now rest → (last : Bool) → last ≡ eqb (length rest) 0 → MatchOption (then_some last cs) ((i : ℕ) → only_frame i (lines_of text) ≡ Err (BadLine i)) (λ x. (i : ℕ) → only_frame i (lines_of text) ≡ frame_in i x.now)
only_checked text cs [] split true e = λ i. ap (only_frame i) split.line_is
only_checked text cs (c ∷ rest) split true e = absurd (omega (arith, eqb-true (length (c ∷ rest)) 0 (sym e)))
only_checked text cs [] split false e = absurd (eqb-false (length {A = ℕ} []) 0 (sym e) refl)
only_checked text cs (c ∷ rest) split false e = λ i. ap (only_frame i) split.line_is ∙ some_lines i cs.now c (eqb c 10) (lines_of rest)
