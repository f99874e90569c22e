-- The sheet that is written for a lawful meaning with some mill reads back as that meaning.
use Rattle.std.proofs.Common.{◌≡◌, ℕ, zero, suc, ◌+◌, ◌<◌, ◌≤◌, Bool, true, false, ◌&&◌, leb, List, [], ◌∷◌, ◌++◌, length, Some, Ok, Result, sym, refl, ap, ◌∙◌, subst, arith}
use mathlib.Core.Path.{fun_ext}
use Rattle.std.specs.List.{flat_map}
use Rattle.std.proofs.lemmas.List.{append_assoc}
use Rattle.std.proofs.lemmas.Bool.{and_left, le-leb, lt-leb}
use Rattle.std.proofs.lemmas.Bool.Decides.{nat_tests}
use Rattle.vocabulary.specs.declared.refusal.Refusal.{Refusal}
use Rattle.capability.specs.Meaning.{Meaning, Lawful}
use Rattle.sheet.specs.Digits.{digits_for}
use Rattle.sheet.specs.Lines.{Lines, line, lines_of}
use Rattle.sheet.specs.Frames.{Frame, frame_in, frame_bytes}
use Rattle.sets.specs.Sets.{member}
use Rattle.sheet.specs.Sheets.{Entry, Able, item_of, rising, and_then, count_due, entry_due, listing, at_end, going_on, entries_in, sheet_in, sheet_of}
use Rattle.sheet.specs.Written.{mills_for, entry_text, count_text, end_text, entries_text, sheet_text}
use Rattle.sheet.proofs.FrameLaws.{Fits, frame_back, lines_frame}
use Rattle.sheet.proofs.ItemLaws.{count_frame, entry_frame, item_entry, entry_due_lem, count_due_lem}
use Rattle.sheet.proofs.RisingLaws.{kept_rising, kept_short}
use Rattle.sheet.proofs.MillLaws.{able_member, fits_entry}

-- what the lines list that begin with the line of an entry
entries_first : (mills floor i : ℕ) (cs : List ℕ) (rest : Lines) (f : Frame) (e : Entry) → frame_in i cs ≡ Ok f → entry_due mills floor i (item_of f) ≡ Ok (Some e) → entries_in mills floor i (line cs rest) ≡ and_then (entries_in mills (suc e.program) (suc i) rest) (λ others. Ok (listing e others))
entries_first mills floor i cs rest f e read due =
    let go = going_on (λ e. entries_in mills (suc e.program) (suc i) rest) (at_end i rest) in
    ap (λ r. and_then r (λ f. and_then (entry_due mills floor i (item_of f)) go)) read ∙ ap (λ r. and_then r go) due

-- the able pairs of the programs from p on
abbrev pub able_from : Meaning → ℕ → Able
able_from m p k q = leb p k && m.able k q

module _ (m : Meaning) (law : Lawful m) where
  none_after : (k q : ℕ) (b : Bool) → m.able k q ≡ b → false ≡ (leb 256 k && b)
  none_after k q true e = sym (and_left _ _ (lt-leb 256 k (law.program k q e)))
  none_after k q false e = grind (arith, nat_tests)

  end_back : (floor i : ℕ) → entries_in m.mills floor i (lines_of end_text) ≡ Ok (able_from m 256)
  end_back floor i = ap Ok (fun_ext (λ k. fun_ext (λ q. none_after k q (m.able k q) refl)))

  -- with the mills of program p, the programs after p are those from p on
  listing_more : (p : ℕ) (xs : List ℕ) → mills_for m p ≡ xs → listing (record { program = p; mills = xs }) (able_from m (p + 1)) ≡ able_from m p
  listing_more p xs is =
      fun_ext (λ k. fun_ext (λ q. let here = ap (member q) (sym is) ∙ able_member m law p q in grind (arith, nat_tests)))

  none_more : (p : ℕ) → mills_for m p ≡ [] → able_from m (p + 1) ≡ able_from m p
  none_more p is =
      fun_ext (λ k. fun_ext (λ q. let here : false ≡ m.able p q = ap (member q) (sym is) ∙ able_member m law p q in grind (arith, nat_tests)))

  -- one program more in front: its mills are xs, and what follows is read
  entry_back : (p floor i : ℕ) (xs : List ℕ) (rest : List ℕ) → p < 256 → floor ≤ p → mills_for m p ≡ xs
      → ((low next : ℕ) → low ≤ p + 1 → entries_in m.mills low next (lines_of rest) ≡ Ok (able_from m (p + 1)))
      → entries_in m.mills floor i (lines_of (entry_text p xs ++ rest)) ≡ Ok (able_from m p)
  entry_back p floor i [] rest small high is after = after floor i (omega arith) ∙ ap Ok (none_more p is)
  entry_back p floor i (x ∷ xs) rest small high is after =
      let short = subst (λ l. length l ≤ m.mills) is (kept_short (m.able p) m.mills) in
      let rise = subst (λ l. rising 0 m.mills l ≡ true) is (kept_rising (m.able p) m.mills) in
      let few = law.few in
      let e : Entry = record { program = p; mills = x ∷ xs } in
      let f = entry_frame e in
      let fits = fits_entry m.mills p (x ∷ xs) few small short rise in
      let due = ap (entry_due m.mills floor i) (item_entry e (omega arith) (omega arith)) ∙ entry_due_lem m.mills floor i e high rise in
      ap (entries_in m.mills floor i) (lines_frame f rest fits)
      ∙ entries_first m.mills floor i (flat_map digits_for (frame_bytes f)) (lines_of rest) f e (frame_back i f fits) due
      ∙ ap (λ r. and_then r (λ others. Ok (listing e others))) (after (suc p) (suc i) (omega arith))
      ∙ ap Ok (listing_more p (x ∷ xs) is)

  -- the lines of the programs from p on list their able pairs
  pub entries_back : (p n floor i : ℕ) → p + n ≡ 256 → floor ≤ p → entries_in m.mills floor i (lines_of (entries_text m p n ++ end_text)) ≡ Ok (able_from m p)
  entries_back p zero floor i e high = end_back floor i ∙ ap (λ k. Ok (able_from m k)) (omega arith)
  entries_back p (suc n) floor i e high =
      ap (λ t. entries_in m.mills floor i (lines_of t)) (append_assoc (entry_text p (mills_for m p)) (entries_text m (p + 1) n) end_text)
      ∙ entry_back p floor i (mills_for m p) (entries_text m (p + 1) n ++ end_text) (omega arith) high refl (λ low next below. entries_back (p + 1) n low next (omega arith) below)

  able_all : able_from m 0 ≡ m.able
  able_all = fun_ext (λ k. fun_ext (λ q. ap (λ t. t && m.able k q) (le-leb 0 k (omega arith))))

  -- the count frame first, and then n programs
  sheet_back : (n : ℕ) → 0 + n ≡ 256 → 1 ≤ m.mills → sheet_in (lines_of (count_text m.mills ++ (entries_text m 0 n ++ end_text))) ≡ Ok m
  sheet_back n e some =
      let mills = m.mills in
      let few = law.few in
      let f = count_frame mills in
      let rest = entries_text m 0 n ++ end_text in
      let fits : Fits f = (omega arith, omega arith, (omega arith, tt)) in
      let whole : Result Able Refusal → Result Meaning Refusal = λ r. and_then r (λ able. Ok (record { mills = mills; able = able })) in
      let listed : Result ℕ Refusal → Result Meaning Refusal = λ r. and_then r (λ mills. and_then (entries_in mills 0 2 (lines_of rest)) (λ able. Ok (record { mills = mills; able = able }))) in
      ap sheet_in (lines_frame f rest fits)
      ∙ ap (λ r. and_then r (λ f. listed (count_due 1 (item_of f)))) (frame_back 1 f fits)
      ∙ ap listed (count_due_lem 1 mills some few)
      ∙ ap whole (entries_back 0 n 0 2 e (omega arith))
      ∙ (λ i. Ok (record { mills = mills; able = able_all i }))

pub read_back : (m : Meaning) → Lawful m → 1 ≤ m.mills → sheet_of (sheet_text m) ≡ Ok m
read_back m law some = sheet_back m law 256 refl some
