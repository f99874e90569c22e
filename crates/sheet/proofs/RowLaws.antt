-- The members of a program's row are the mills that a sheet lists for it, and its lines follow from them.
use Rattle.std.proofs.Common.{◌≡◌, ℕ, zero, suc, ◌+◌, ◌*◌, ◌<◌, ◌≤◌, Bool, true, false, cond, List, [], ◌∷◌, length, filter, sym, refl, ap, ◌∙◌, ⊎_elim, slice_index_or, arith}
use Rattle.std.specs.List.{range_with_len}
use Rattle.std.proofs.lemmas.List.{nil_from_length}
use Rattle.std.proofs.lemmas.Bool.{cases_lt}
use Rattle.sets.specs.Sets.{numbers, has, members}
use Rattle.sets.specs.declared.number_set.NumberSet.{NumberSet}
use Rattle.sets.proofs.Rising.{length-numbers_le}
use Rattle.capability.specs.Meaning.{Meaning, Lawful}
use Rattle.capability.specs.Copied.{copied}
use Rattle.capability.specs.Rows.{none}
use Rattle.capability.specs.declared.abilities.Abilities.{Abilities}
use Rattle.sheet.specs.Frames.{frame_text}
use Rattle.sheet.specs.Written.{mills_for, entry_text}
use Rattle.sheet.specs.Copies.{entry_of}
use Rattle.sheet.proofs.EntriesLaws.{text_entry}
use Rattle.sheet.proofs.FrameLaws.{length_frame}
use Rattle.sheet.proofs.RisingLaws.{kept_same, kept_none}

-- where nothing passes from a bound on, a higher bound keeps nothing more
kept_past : (f : ℕ → Bool) (a n m : ℕ) → n ≤ m → ((k : ℕ) → a + n ≤ k → f k ≡ false) → filter f (range_with_len a m) ≡ filter f (range_with_len a n)
kept_past f a zero m le none = kept_same f (λ _. false) a m (λ k low _. none k (omega arith)) ∙ kept_none (λ _. false) a m (λ _. refl)
kept_past f a (suc n) zero le none = absurd (omega arith)
kept_past f a (suc n) (suc m) le none =
    ap (λ l. cond (f a) (a ∷ l) l) (kept_past f (a + 1) n m (omega arith) (λ k low. none k (omega arith)))

module _ (m : Meaning) (law : Lawful m) (p : ℕ) where
  above : (k : ℕ) (b : Bool) → m.able p k ≡ b → m.mills ≤ k → b ≡ false
  above k true able high = absurd (omega (arith, law.mill p k able))
  above k false able high = refl

  numbers_mills : (f : ℕ → Bool) (bound : ℕ) → m.mills ≤ bound → ((k : ℕ) → f k ≡ m.able p k) → numbers f bound ≡ mills_for m p
  unfolding numbers
  numbers_mills f bound few is =
      kept_same f (m.able p) 0 bound (λ k _ _. is k) ∙ kept_past (m.able p) 0 m.mills bound few (λ k high. above k (m.able p k) refl (omega arith))

module _ (abilities : Abilities) (p : ℕ) (row : NumberSet) (is : (k : ℕ) → has row k ≡ (copied abilities).able p k) where
  row_mills : mills_for (copied abilities) p ≡ members row
  row_mills = sym (numbers_mills (copied abilities) abilities.lawful p (has row) 64 abilities.lawful.few is)

  -- a program with no mill has no line
  pub entry_none : length (members row) ≡ 0 → entry_of abilities p ≡ []
  unfolding entry_of
  entry_none none = ap (entry_text p) (row_mills ∙ nil_from_length (members row) none)

  -- any other has one
  pub entry_some : (length (members row) ≡ 0 → ⊥) → entry_of abilities p ≡ frame_text (record { kind = 2; payload = p ∷ members row })
  unfolding entry_of
  entry_some some = ap (entry_text p) row_mills ∙ text_entry p (members row) (omega arith)

  pub length_none : length (members row) ≡ 0 → length (entry_of abilities p) ≡ 0
  length_none none = ap length (entry_none none)

  pub length_some : (length (members row) ≡ 0 → ⊥) → length (entry_of abilities p) ≡ 2 * (length (members row) + 4) + 1
  length_some some = ap length (entry_some some) ∙ length_frame (record { kind = 2; payload = p ∷ members row }) ∙ omega arith

  -- the frame that carries it
  module _ (some : length (members row) ≡ 0 → ⊥) (kind : ℕ) (payload : List ℕ) (is_two : kind ≡ 2) (bytes : payload ≡ p ∷ members row) where
    pub entry_frame : frame_text (record { kind = kind; payload = payload }) ≡ entry_of abilities p
    entry_frame = (λ i. frame_text (record { kind = is_two i; payload = bytes i })) ∙ sym (entry_some some)

    pub payload_room : length (entry_of abilities p) ≡ 2 * (length payload + 3) + 1
    payload_room = omega (arith, ap length bytes, length_some some)

-- the lines of a program hold no more than 64 mills
pub entry_short : (abilities : Abilities) (p : ℕ) → length (entry_of abilities p) ≤ 137
entry_short abilities p =
    let row : NumberSet = slice_index_or abilities.rows p none in
    let few = length-numbers_le (has row) 64 in
    ⊎_elim
    (λ (some : 0 < length (members row)). omega (arith, length_some abilities p row (λ k. refl) (λ e. omega arith)))
    (λ (less : length (members row) ≤ 0). omega (arith, length_none abilities p row (λ k. refl) (omega arith)))
    (cases_lt 0 (length (members row)))
