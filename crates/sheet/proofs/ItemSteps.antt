-- What a frame is in a sheet, by the kind and the number of payload digits that the frame reader looks at.
use Rattle.std.proofs.Common.{◌≡◌, ℕ, ◌-◌, ◌≤◌, Bool, true, false, ◌&&◌, eqb, leb, List, length, get_or, take, drop, Some, None, Ok, Err, sym, refl, ap, ◌∙◌, ⊎_elim}
use Rattle.vocabulary.specs.declared.refusal.Refusal.{Refusal}
use Rattle.std.proofs.lemmas.List.{take_rest}
use Rattle.std.proofs.lemmas.Bool.{cond-true, cond-false, eq-eqb, eqb-true, eqb-false, leb-true, le-leb, and_parts, and_from, cases_Bool}
use Rattle.sheet.specs.Digits.{bytes_of}
use Rattle.sheet.specs.Lines.{Lines, over, open_ended, line, lines_of}
use Rattle.sheet.specs.Frames.{Frame, first_frame}
use Rattle.sheet.specs.Sheets.{entry, item_of, and_then, first_item}
use Rattle.sheet.proofs.ByteLaws.{bytes_drop}
use Rattle.sheet.proofs.LineLaws.{text_of, text_again}

-- a conjunction that cannot hold is false
not_both : (a b : Bool) → (a ≡ true → b ≡ true → ⊥) → (a && b) ≡ false
not_both a b never = ⊎_elim (λ both. let p = and_parts a b both in absurd (never p.0 p.1)) (λ e. e) (cases_Bool (a && b))

module _ (f : Frame) where
  module _ (n1 : f.kind ≡ 1 → length f.payload ≡ 1 → ⊥) where
    not_count : (eqb f.kind 1 && eqb (length f.payload) 1) ≡ false
    not_count = not_both _ _ (λ a b. n1 (eqb-true _ _ a) (eqb-true _ _ b))

    pub item_entry : f.kind ≡ 2 → 2 ≤ length f.payload → length f.payload ≤ 65 → item_of f ≡ Some (entry (record { program = get_or f.payload 0 0; mills = drop 1 f.payload }))
    item_entry k low high = cond-false _ _ _ not_count ∙ cond-true _ _ _ (and_from _ _ (eq-eqb _ _ k) (and_from _ _ (le-leb _ _ low) (le-leb _ _ high)))

    module _ (n2 : f.kind ≡ 2 → 2 ≤ length f.payload → length f.payload ≤ 65 → ⊥) where
      not_entry : (eqb f.kind 2 && (leb 2 (length f.payload) && leb (length f.payload) 65)) ≡ false
      not_entry = not_both _ _ (λ a b. let p = and_parts _ _ b in n2 (eqb-true _ _ a) (leb-true _ _ p.0) (leb-true _ _ p.1))

      pub item-none : (f.kind ≡ 15 → length f.payload ≡ 0 → ⊥) → item_of f ≡ None
      item-none n3 = cond-false _ _ _ not_count ∙ cond-false _ _ _ not_entry ∙ cond-false _ _ _ (not_both _ _ (λ a b. n3 (eqb-true _ _ a) (eqb-true _ _ b)))

-- the digits behind the program's are those of its mills
pub mill_digits : (ds : List ℕ) → bytes_of (take (length ds - 2) (drop 2 ds)) ≡ drop 1 (bytes_of ds)
mill_digits ds = ap bytes_of (take_rest ds 2) ∙ bytes_drop 1 2 ds refl

-- a fault of the line is the fault of the item, where the text is not over
fault_in : (i : ℕ) (text : List ℕ) (l : Lines) (e : Refusal) → lines_of text ≡ l → eqb (length text) 0 ≡ false → first_frame i l ≡ Err e → first_item i l ≡ Err e
fault_in i text over e is some h = absurd (eqb-false (length text) 0 some (ap length (sym (text_again text) ∙ ap text_of is)))
fault_in i text (open_ended cs) e is some h = ap (λ r. and_then r (λ f. Ok (item_of f))) h
fault_in i text (line cs rest) e is some h = ap (λ r. and_then r (λ f. Ok (item_of f))) h

pub item_fault : (i : ℕ) (text : List ℕ) (e : Refusal) → eqb (length text) 0 ≡ false → first_frame i (lines_of text) ≡ Err e → first_item i (lines_of text) ≡ Err e
item_fault i text e some h = fault_in i text (lines_of text) e refl some h
