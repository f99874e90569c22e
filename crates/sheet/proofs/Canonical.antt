-- A lawful text is the one sheet of its meaning, and its meaning is lawful.
use Rattle.std.proofs.Common.{◌≡◌, ℕ, suc, ◌+◌, ◌-◌, ◌<◌, ◌≤◌, Bool, true, false, List, [], ◌∷◌, ◌++◌, length, Some, None, Ok, Err, Option, Result, sym, refl, ap, ◌∙◌, subst, subst₂, ⊎_elim, add-one, arith}
use Rattle.std.specs.List.{flat_map}
use Rattle.std.proofs.lemmas.List.{append_assoc}
use Rattle.std.proofs.lemmas.Bool.{cases_eq, cond-true, cond-false, eq-eqb, ne_eqb}
use Rattle.vocabulary.specs.declared.refusal.Refusal.{Refusal}
use Rattle.capability.specs.Meaning.{Meaning, Lawful, nothing}
use Rattle.sheet.specs.Digits.{digits_for}
use Rattle.sheet.specs.Lines.{Lines, over, open_ended, line, lines_of}
use Rattle.sheet.specs.Frames.{Frame, frame_in, frame_bytes, frame_text}
use Rattle.sets.specs.Sets.{member}
use Rattle.sheet.specs.Sheets.{Entry, Able, item_of, rising, count_due, entry_due, listing, at_end, going_on, entries_in, sheet_in, sheet_of, meaning_of}
use Rattle.sheet.specs.Written.{mills_for, entry_text, count_text, end_text, entries_text, sheet_text}
use Rattle.sheet.proofs.EntriesLaws.{text_entry, entries_same, entries_none, entries_skip}
use Rattle.sheet.proofs.FrameLaws.{Fits, frame_again}
use Rattle.sheet.proofs.ItemLaws.{entry_frame, from_count_due, from_entry_due, from_end_due, from_item_count, from_item_entry, from_item_end}
use Rattle.sheet.proofs.LineLaws.{text_of, text_again}
use Rattle.sheet.proofs.OkLaws.{ok_inside, ok_from_and_then}
use Rattle.sheet.proofs.RisingLaws.{rising_kept, kept_same, kept_none, member-rising}

-- the text of a line with a frame, and of what follows
text_frame : (i : ℕ) (cs : List ℕ) (f : Frame) (rest : List ℕ) → frame_in i cs ≡ Ok f → cs ++ (10 ∷ rest) ≡ frame_text f ++ rest
text_frame i cs f rest read =
    ap (λ l. l ++ (10 ∷ rest)) (frame_again i cs f read).0 ∙ sym (append_assoc (flat_map digits_for (frame_bytes f)) (10 ∷ []) rest)

-- what lines are that list these pairs
record Listed (mills floor : ℕ) (text : List ℕ) (able : Able) : Type 0 where
  whole : (n : ℕ) → floor + n ≡ 256 → text ≡ entries_text (record { mills = mills; able = able }) floor n ++ end_text
  above : (p q : ℕ) → able p q ≡ true → floor ≤ p
  program : (p q : ℕ) → able p q ≡ true → p < 256
  mill : (p q : ℕ) → able p q ≡ true → q < mills

at_end_lem : (i : ℕ) (rest : Lines) (able : Able) → at_end i rest ≡ Ok able → (rest ≡ over) × (able ≡ nothing.able)
at_end_lem i over able h = (refl, sym (ok_inside nothing.able able h))
at_end_lem i (open_ended cs) able h = absurd (grind arith)
at_end_lem i (line cs rest) able h = absurd (grind arith)

end_listed : (mills floor : ℕ) → Listed mills floor end_text nothing.able
end_listed mills floor = record {
  whole = λ n e. ap (λ t. t ++ end_text) (sym (entries_none (record { mills = mills; able = nothing.able }) floor n (λ k _ _. kept_none (nothing.able k) 0 mills (λ _. refl))));
  above = λ p q h. absurd (grind arith);
  program = λ p q h. absurd (grind arith);
  mill = λ p q h. absurd (grind arith);
}

-- a pair that is able is of this entry or of the others
listing_either : (e : Entry) (others : Able) (p q : ℕ) (P : Type 0) → (p ≡ e.program → member q e.mills ≡ true → P) → (others p q ≡ true → P) → listing e others p q ≡ true → P
listing_either e others p q P here there h =
    ⊎_elim
    (λ (same : p ≡ e.program). here same (sym (cond-true _ _ _ (eq-eqb p e.program same)) ∙ h))
    (λ (other : p ≡ e.program → ⊥). there (sym (cond-false _ _ _ (ne_eqb p e.program other)) ∙ h))
    (cases_eq p e.program)

-- an entry in front of listed lines
module _ (mills floor : ℕ) (e : Entry) (high : floor ≤ e.program) (small : e.program < 256) (rise : rising 0 mills e.mills ≡ true) (some : 1 ≤ length e.mills)
    (text : List ℕ) (others : Able) (rest : Listed mills (suc e.program) text others) where
  abbrev before : Meaning
  before = record { mills = mills; able = others }

  abbrev now : Meaning
  now = record { mills = mills; able = listing e others }

  -- no program before this one has a mill
  none_before : (k q : ℕ) (b : Bool) → listing e others k q ≡ b → k < e.program → b ≡ false
  none_before k q true is low = absurd (listing_either e others k q ⊥ (λ same _. omega arith) (λ there. omega (arith, rest.above k q there)) is)
  none_before k q false is low = refl

  mills_between : (k : ℕ) → k < e.program → mills_for now k ≡ []
  mills_between k low = kept_none (listing e others k) 0 mills (λ q. none_before k q (listing e others k q) refl low)

  mills_here : mills_for now e.program ≡ e.mills
  mills_here =
      kept_same (listing e others e.program) (λ q. member q e.mills) 0 mills (λ q _ _. cond-true _ _ _ (eq-eqb e.program e.program refl))
      ∙ rising_kept mills e.mills rise

  mills_after : (k : ℕ) → e.program < k → mills_for before k ≡ mills_for now k
  mills_after k above = kept_same (others k) (listing e others k) 0 mills (λ q _ _. sym (cond-false _ _ _ (ne_eqb k e.program (omega arith))))

  -- r programs come after this one
  entries_more : (n r : ℕ) → e.program + suc r ≡ floor + n → frame_text (entry_frame e) ++ entries_text before (suc e.program) r ≡ entries_text now floor n
  entries_more n r count =
      let after = entries_same before now (suc e.program) r (λ k low _. mills_after k low) in
      sym
      (entries_skip now floor n e.program r high count (λ k _ low. mills_between k low)
      ∙ (λ i. (ap (entry_text e.program) mills_here ∙ text_entry e.program e.mills some) i ++ (ap (λ p. entries_text now p r) (add-one e.program) ∙ sym after) i))

  entry_listed : Listed mills floor (frame_text (entry_frame e) ++ text) (listing e others)
  entry_listed = record {
    whole = λ n is.
        let r = 255 - e.program in
        ap (λ t. frame_text (entry_frame e) ++ t) (rest.whole r (omega arith))
        ∙ sym (append_assoc (frame_text (entry_frame e)) (entries_text before (suc e.program) r) end_text)
        ∙ ap (λ t. t ++ end_text) (entries_more n r (omega arith));
    above = λ p q. listing_either e others p q (floor ≤ p) (λ same _. omega arith) (λ there. omega (arith, rest.above p q there));
    program = λ p q. listing_either e others p q (p < 256) (λ same _. omega arith) (rest.program p q);
    mill = λ p q. listing_either e others p q (q < mills) (λ _ has. member-rising 0 mills q e.mills rise has) (rest.mill p q);
  }

-- a line in front of lines that list what they are read as
line_listed : (mills floor i : ℕ) (cs : List ℕ) (rest : Lines) (able : Able) (f : Frame) (o : Option Entry)
    → ((low next : ℕ) (others : Able) → entries_in mills low next rest ≡ Ok others → Listed mills low (text_of rest) others)
    → frame_in i cs ≡ Ok f → entry_due mills floor i (item_of f) ≡ Ok o
    → going_on (λ e. entries_in mills (suc e.program) (suc i) rest) (at_end i rest) o ≡ Ok able
    → Listed mills floor (cs ++ (10 ∷ text_of rest)) able
line_listed mills floor i cs rest able f None listed read due go =
    let ends = at_end_lem i rest able go in
    let is = from_item_end f (from_end_due mills floor i (item_of f) due) in
    let text : cs ++ (10 ∷ text_of rest) ≡ end_text = text_frame i cs f (text_of rest) read ∙ (λ i. frame_text (is i) ++ text_of (ends.0 i)) in
    subst₂ (Listed mills floor) (sym text) (sym ends.1) (end_listed mills floor)
line_listed mills floor i cs rest able f (Some e) listed read due go =
    let from = from_entry_due mills floor i e (item_of f) due in
    let is = from_item_entry f e from.0 in
    let fits = subst Fits is.0 (frame_again i cs f read).1 in
    let more = ok_from_and_then (entries_in mills (suc e.program) (suc i) rest) (λ others. Ok (listing e others)) able go in
    let text = text_frame i cs f (text_of rest) read ∙ ap (λ f. frame_text f ++ text_of rest) is.0 in
    subst₂ (Listed mills floor) (sym text) (ok_inside (listing e more.0) able more.2)
    (entry_listed mills floor e from.1 fits.2.0 from.2 is.1 (text_of rest) more.0 (listed (suc e.program) (suc i) more.0 more.1))

entries_listed : (mills : ℕ) (l : Lines) (floor i : ℕ) (able : Able) → entries_in mills floor i l ≡ Ok able → Listed mills floor (text_of l) able
entries_listed mills over floor i able h = absurd (grind arith)
entries_listed mills (open_ended cs) floor i able h = absurd (grind arith)
entries_listed mills (line cs rest) floor i able h =
    let first = ok_from_and_then (frame_in i cs) _ able h in
    let second = ok_from_and_then (entry_due mills floor i (item_of first.0)) _ able first.2 in
    line_listed mills floor i cs rest able first.0 second.0 (λ low next others. entries_listed mills rest low next others) first.1 second.1 second.2

-- what a text is that means m
record Means (text : List ℕ) (m : Meaning) : Type 0 where
  whole : (n : ℕ) → 0 + n ≡ 256 → text ≡ count_text m.mills ++ (entries_text m 0 n ++ end_text)
  law : Lawful m
  some : 1 ≤ m.mills

sheet_means : (l : Lines) (m : Meaning) → sheet_in l ≡ Ok m → Means (text_of l) m
sheet_means over m h = absurd (grind arith)
sheet_means (open_ended cs) m h = absurd (grind arith)
sheet_means (line cs rest) m h =
    let first = ok_from_and_then (frame_in 1 cs) _ m h in
    let f = first.0 in
    let second = ok_from_and_then (count_due 1 (item_of f)) _ m first.2 in
    let n = second.0 in
    let third = ok_from_and_then (entries_in n 0 2 rest) _ m second.2 in
    let able = third.0 in
    let from = from_count_due 1 n (item_of f) second.1 in
    let text = text_frame 1 cs f (text_of rest) first.1 ∙ ap (λ f. frame_text f ++ text_of rest) (from_item_count f n from.0) in
    let listed = entries_listed n rest 0 2 able third.1 in
    subst (Means (cs ++ (10 ∷ text_of rest))) (ok_inside (record { mills = n; able = able }) m third.2)
    (record {
      whole = λ k e. text ∙ ap (λ t. count_text n ++ t) (listed.whole k e);
      law = record { few = from.2; program = listed.program; mill = listed.mill };
      some = from.1;
    })

means : (text : List ℕ) (m : Meaning) → sheet_of text ≡ Ok m → Means text m
means text m h = subst (λ t. Means t m) (text_again text) (sheet_means (lines_of text) m h)

pub canonical : (text : List ℕ) (m : Meaning) → sheet_of text ≡ Ok m → text ≡ sheet_text m
canonical text m h = (means text m h).whole 256 refl

pub lawful_sheet : (text : List ℕ) (m : Meaning) → sheet_of text ≡ Ok m → Lawful m
lawful_sheet text m h = (means text m h).law

pub some_mills : (text : List ℕ) (m : Meaning) → sheet_of text ≡ Ok m → 1 ≤ m.mills
some_mills text m h = (means text m h).some

lawful_nothing : Lawful nothing
lawful_nothing = record { few = omega arith; program = λ p m h. absurd (grind arith); mill = λ p m h. absurd (grind arith) }

-- also where the text is refused
pub lawful_meaning : (text : List ℕ) → Lawful (meaning_of (sheet_of text))
lawful_meaning text = either (sheet_of text) refl
  where
    either : (r : Result Meaning Refusal) → sheet_of text ≡ r → Lawful (meaning_of r)
    either (Ok m) e = lawful_sheet text m e
    either (Err e) _ = lawful_nothing
