-- A text is its lines with their line feeds, and plain characters before a line feed are a line.
use Rattle.std.proofs.Common.{◌≡◌, ℕ, Bool, true, false, cond, eqb, List, [], ◌∷◌, ◌++◌, is_some, sym, refl, ap, ◌∙◌, arith}
use Rattle.std.specs.List.{AllByRecursion as All}
use Rattle.std.proofs.lemmas.Bool.{and_parts, cond-false, ne_eqb, eqb-true}
use Rattle.std.proofs.lemmas.Bool.Decides.{nat_tests}
use Rattle.sheet.specs.Digits.{digit_of, all_digits}
use Rattle.sheet.specs.Lines.{Lines, over, open_ended, line, fronted, lines_of}

-- a character other than the line feed stands in front of the first line
lines_front : (c : ℕ) (cs : List ℕ) → (c ≡ 10 → ⊥) → lines_of (c ∷ cs) ≡ fronted c (lines_of cs)
lines_front c cs plain = cond-false (eqb c 10) _ _ (ne_eqb c 10 plain)

pub lines_line : (cs rest : List ℕ) → All (λ c. c ≡ 10 → ⊥) cs → lines_of (cs ++ (10 ∷ rest)) ≡ line cs (lines_of rest)
lines_line [] rest plain = refl
lines_line (c ∷ cs) rest plain = lines_front c (cs ++ (10 ∷ rest)) plain.0 ∙ ap (fronted c) (lines_line cs rest plain.1)

-- the text that has these lines
abbrev pub text_of : Lines → List ℕ
text_of over = []
text_of (open_ended cs) = cs
text_of (line cs rest) = cs ++ (10 ∷ text_of rest)

text_front : (c : ℕ) (l : Lines) → text_of (fronted c l) ≡ c ∷ text_of l
text_front c over = refl
text_front c (open_ended cs) = refl
text_front c (line cs rest) = refl

text_first : (c : ℕ) (l : Lines) (feed : Bool) → eqb c 10 ≡ feed → text_of (cond feed (line [] l) (fronted c l)) ≡ c ∷ text_of l
text_first c l true e = ap (λ d. d ∷ text_of l) (sym (eqb-true c 10 e))
text_first c l false e = text_front c l

pub text_again : (t : List ℕ) → text_of (lines_of t) ≡ t
text_again [] = refl
text_again (c ∷ cs) = text_first c (lines_of cs) (eqb c 10) refl ∙ ap (λ t. c ∷ t) (text_again cs)

digit_plain : (c : ℕ) → is_some (digit_of c) ≡ true → c ≡ 10 → ⊥
digit_plain c h e = grind (arith, nat_tests)

pub digits_plain : (cs : List ℕ) → all_digits cs ≡ true → All (λ c. c ≡ 10 → ⊥) cs
digits_plain [] h = tt
digits_plain (c ∷ cs) h = let parts = and_parts _ _ h in (digit_plain c parts.0, digits_plain cs parts.1)
