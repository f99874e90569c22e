-- The steps of writing a sheet: one program more in the loops over programs, and the parts of the sheet one behind the other.
use Rattle.std.proofs.Common.{◌*◌, ◌≡◌, ℕ, zero, suc, ◌+◌, ◌<◌, ◌≤◌, List, [], ◌∷◌, ◌++◌, length, sym, refl, ap, ◌∙◌, ⊎_elim, add-one, arith}
use Rattle.std.specs.List.{range_with_len, flat_map, sum_by}
use Rattle.std.proofs.lemmas.List.FromFn.{map-range_with_len_more}
use Rattle.std.proofs.lemmas.List.{flat_map_more, length-append, map-id}
use Rattle.std.proofs.lemmas.List.Sums.{sum_by_push}
use Rattle.std.proofs.lemmas.Bool.{cases_lt}
use Rattle.capability.specs.Meaning.{Meaning}
use Rattle.capability.specs.Copied.{copied}
use Rattle.capability.specs.declared.abilities.Abilities.{Abilities}
use Rattle.sheet.specs.Frames.{frame_text}
use Rattle.sheet.specs.Copies.{entry_of, entries_of, sheet_for}
use Rattle.sheet.specs.Written.{mills_for, entry_text, count_text, end_text, entries_text}
use Rattle.sheet.proofs.FrameLaws.{length_frame}
use Rattle.sheet.proofs.ItemLaws.{count_frame, end_frame}
use Rattle.sheet.proofs.RowLaws.{entry_short}

-- ---- one program more

counting_more : (n : ℕ) → range_with_len 0 (n + 1) ≡ range_with_len 0 n ++ n ∷ []
counting_more n = sym (map-id (range_with_len 0 (n + 1))) ∙ map-range_with_len_more (λ k. k) 0 n n (omega arith) ∙ ap (λ l. l ++ n ∷ []) (map-id (range_with_len 0 n))

text_more : (m : Meaning) (n : ℕ) → entries_text m 0 (n + 1) ≡ entries_text m 0 n ++ entry_text n (mills_for m n)
text_more m n =
    let entry : ℕ → List ℕ = λ q. entry_text q (mills_for m q) in
    ap (flat_map entry) (counting_more n) ∙ sym (flat_map_more entry [] (range_with_len 0 n) n)

module _ (abilities : Abilities) where
  pub entries_start : entries_of abilities 0 ≡ []
  unfolding entries_of
  entries_start = refl

  pub entries_next : (n : ℕ) → entries_of abilities (n + 1) ≡ entries_of abilities n ++ entry_of abilities n
  unfolding entries_of entry_of
  entries_next n = text_more (copied abilities) n

  pub length_entries_start : length (entries_of abilities 0) ≡ 0
  length_entries_start = ap length entries_start

  pub length_entries_next : (n : ℕ) → length (entries_of abilities (n + 1)) ≡ length (entries_of abilities n) + length (entry_of abilities n)
  length_entries_next n = ap length (entries_next n) ∙ length-append (entries_of abilities n) (entry_of abilities n)

-- the length of a sheet of n programs
length_parts : (m : Meaning) (n : ℕ) → length (count_text m.mills ++ (entries_text m 0 n ++ end_text)) ≡ 9 + length (entries_text m 0 n) + 7
length_parts m n =
    omega (arith, length-append (count_text m.mills) (entries_text m 0 n ++ end_text), length-append (entries_text m 0 n) end_text, length_frame (count_frame m.mills), length_frame end_frame)

pub length_sheet : (abilities : Abilities) → length (sheet_for abilities) ≡ 9 + length (entries_of abilities 256) + 7
unfolding sheet_for entries_of
length_sheet abilities = length_parts (copied abilities) 256

-- fewer programs have no longer lines
pub entries_upto : (abilities : Abilities) (n m : ℕ) → n ≤ m → length (entries_of abilities n) ≤ length (entries_of abilities m)
entries_upto abilities n zero le = let none : n ≡ 0 = omega arith in omega (arith, ap (λ k. length (entries_of abilities k)) none)
entries_upto abilities n (suc m) le =
    let next = length_entries_next abilities m in
    let same = ap (λ k. length (entries_of abilities k)) (add-one m) in
    ⊎_elim
    (λ (below : n < suc m). omega (arith, entries_upto abilities n m (omega arith)))
    (λ (all : suc m ≤ n). let is : n ≡ suc m = omega arith in omega (arith, ap (λ k. length (entries_of abilities k)) is))
    (cases_lt n (suc m))

-- ---- the whole sheet: its first line, the lines of the programs, its last line

sheet_parts : (abilities : Abilities) → sheet_for abilities ≡ count_text (copied abilities).mills ++ (entries_of abilities 256 ++ end_text)
unfolding sheet_for entries_of
sheet_parts abilities = refl

-- its first and its last line as the frames that are written
pub sheet_frames : (abilities : Abilities) (first mills last : ℕ) → first ≡ 1 → mills ≡ (copied abilities).mills → last ≡ 15
    → frame_text (record { kind = first; payload = mills ∷ [] }) ++ (entries_of abilities 256 ++ frame_text (record { kind = last; payload = [] })) ≡ sheet_for abilities
sheet_frames abilities first mills last one count fifteen =
    (λ i. frame_text (record { kind = one i; payload = count i ∷ [] }) ++ (entries_of abilities 256 ++ frame_text (record { kind = fifteen i; payload = [] })))
    ∙ sym (sheet_parts abilities)

-- the lengths of the lines of n programs
pub sum_entries : (abilities : Abilities) (n : ℕ) → sum_by (λ q. length (entry_of abilities q)) (range_with_len 0 n) ≡ length (entries_of abilities n)
sum_entries abilities zero = sym (length_entries_start abilities)
sum_entries abilities (suc n) =
    let f : ℕ → ℕ = λ q. length (entry_of abilities q) in
    ap (λ k. sum_by f (range_with_len 0 k)) (sym (add-one n)) ∙ ap (sum_by f) (counting_more n) ∙ sum_by_push f (range_with_len 0 n) n
    ∙ ap (λ k. k + length (entry_of abilities n)) (sum_entries abilities n)
    ∙ sym (length_entries_next abilities n) ∙ ap (λ k. length (entries_of abilities k)) (add-one n)

pub entries_short : (abilities : Abilities) (n : ℕ) → length (entries_of abilities n) ≤ 137 * n
entries_short abilities zero = omega (arith, length_entries_start abilities)
entries_short abilities (suc n) =
    omega (arith, length_entries_next abilities n, entry_short abilities n, entries_short abilities n, ap (λ k. length (entries_of abilities k)) (add-one n))
