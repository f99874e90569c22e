-- Where the sheet source stands when it steps over a lawful sheet by the count bytes.
use Rattle.std.proofs.Common.{◌≡◌, ℕ, ◌+◌, ◌-◌, ◌*◌, ◌<◌, ◌≤◌, true, false, ◌⊎◌, List, [], ◌∷◌, ◌++◌, length, get_or, take, drop, is_ok, Ok, Err, Result, sym, refl, ap, ◌∙◌, inl, inr, ⊎_elim, append_assoc, add-one, arith, length-append}
use Rattle.std.specs.List.{flat_map, AllByRecursion as All}
use Rattle.std.proofs.lemmas.List.{drop_at, take_at, take_rest}
use Rattle.std.proofs.lemmas.Bool.{cases_Bool}
use Rattle.vocabulary.specs.declared.refusal.Refusal.{Refusal}
use Rattle.capability.specs.Meaning.{Meaning, Lawful}
use Rattle.sheet.specs.declared.frame.Entry.{Entry}
use Rattle.sheet.specs.Digits.{bytes_of, digits_for}
use Rattle.sheet.specs.Frames.{Frame, frame_bytes, frame_text}
use Rattle.sheet.specs.Sheets.{sheet_of, meaning_of}
use Rattle.sheet.specs.Front.{FrontEntry}
use Rattle.sheet.specs.Written.{mills_for, count_text, end_text, entries_text}
use Rattle.sheet.proofs.ByteLaws.{bytes_drop, bytes_take}
use Rattle.sheet.proofs.Canonical.{canonical, lawful_sheet}
use Rattle.sheet.proofs.DigitLaws.{byte_back}
use Rattle.sheet.proofs.FrameLaws.{Fits, fits_bytes, length_frame}
use Rattle.sheet.proofs.MillLaws.{fits_entry}
use Rattle.sheet.proofs.NextEntry.{NoneLeft, NextIs, next_entry_lem}
use Rattle.sheet.proofs.RisingLaws.{kept_short, kept_rising}

pub ok_meaning : (r : Result Meaning Refusal) → is_ok r ≡ true → r ≡ Ok (meaning_of r)
ok_meaning (Ok m) h = refl
ok_meaning (Err e) h = absurd (grind arith)

-- the bytes of digits that are followed by more
pub bytes_append : (bs cs : List ℕ) → All (λ b. b < 256) bs → bytes_of (flat_map digits_for bs ++ cs) ≡ bs ++ bytes_of cs
bytes_append [] cs small = refl
bytes_append (b ∷ bs) cs small = λ i. byte_back b small.0 i ∷ bytes_append bs cs small.1 i

-- the frame of a program with its mills, and more text behind its line
module _ (p : ℕ) (ms more : List ℕ) (fits : Fits (record { kind = 2; payload = p ∷ ms })) where
  abbrev it : Frame
  it = record { kind = 2; payload = p ∷ ms }

  abbrev here : List ℕ
  here = frame_text it ++ more

  -- kind, count, program and mills are the first bytes
  bytes_here : bytes_of here ≡ frame_bytes it ++ bytes_of (10 ∷ more)
  bytes_here = ap bytes_of (append_assoc (flat_map digits_for (frame_bytes it)) (10 ∷ []) more) ∙ bytes_append (frame_bytes it) (10 ∷ more) (fits_bytes it fits)

  byte_here : (i : ℕ) → get_or (bytes_of here) i 0 ≡ get_or (frame_bytes it ++ bytes_of (10 ∷ more)) i 0
  byte_here i = ap (λ bs. get_or bs i 0) bytes_here

  mills_here : bytes_of (take (2 * length ms) (drop 6 here)) ≡ ms
  mills_here =
      bytes_take (length ms) (2 * length ms) (drop 6 here) refl
      ∙ ap (take (length ms)) (bytes_drop 3 6 here refl ∙ ap (drop 3) bytes_here ∙ append_assoc ms _ (bytes_of (10 ∷ more)))
      ∙ take_at ms _ (length ms) refl

  long_here : length here ≡ 2 * length ms + 9 + length more
  long_here = omega (arith, length-append (frame_text it) more, length_frame it)

  more_here : drop (2 * length ms + 9) here ≡ more
  more_here = drop_at (frame_text it) more (2 * length ms + 9) (omega (arith, length_frame it))

-- what is left of a sheet begins with the entries from some program on, which is not past the one that is looked for
pub record Ahead (m : Meaning) (program : ℕ) (rest : List ℕ) : Type 0 where
  pub from : ℕ
  pub low : from ≤ program
  pub text : rest ≡ entries_text m from (256 - from) ++ end_text

-- it begins with the end frame: the program is not listed
pub record EndHere (m : Meaning) (program : ℕ) (rest : List ℕ) : Type 0 where
  pub kind : get_or (bytes_of rest) 0 0 ≡ 15
  pub long : 7 ≤ length rest
  pub none : mills_for m program ≡ []

-- it begins with the frame of program q, the first that is listed
pub record EntryHere (m : Meaning) (program : ℕ) (rest : List ℕ) : Type 0 where
  pub q : ℕ
  pub kind : get_or (bytes_of rest) 0 0 ≡ 2
  pub count : get_or (bytes_of rest) 1 0 ≡ length (mills_for m q) + 1
  pub named : get_or (bytes_of rest) 2 0 ≡ q
  pub mills : bytes_of (take (2 * length (mills_for m q)) (drop 6 rest)) ≡ mills_for m q
  pub long : 2 * length (mills_for m q) + 9 ≤ length rest
  pub more : drop (2 * length (mills_for m q) + 9) rest ≡ entries_text m (q + 1) (256 - (q + 1)) ++ end_text
  pub before : program < q → mills_for m program ≡ []

module _ (m : Meaning) (law : Lawful m) (program : ℕ) (small : program < 256) (rest : List ℕ) (a : Ahead m program rest) where
  end_here : NoneLeft m a.from (256 - a.from) → EndHere m program rest
  end_here left =
      let is : rest ≡ end_text = a.text ∙ ap (λ t. t ++ end_text) left.text in
      record {
        kind = ap (λ t. get_or (bytes_of t) 0 0) is;
        long = omega (arith, ap length is);
        none = left.none program a.low small;
      }

  entry_here : NextIs m a.from (256 - a.from) → EntryHere m program rest
  entry_here next =
      let q = next.q in
      let ms = mills_for m q in
      let others = entries_text m (q + 1) (255 - q) in
      let tail = others ++ end_text in
      let short = kept_short (m.able q) m.mills in
      let fits = fits_entry m.mills q ms law.few next.high short (kept_rising (m.able q) m.mills) in
      let text = frame_text (record { kind = 2; payload = q ∷ ms }) in
      let is : rest ≡ text ++ tail = a.text ∙ ap (λ t. t ++ end_text) next.text ∙ append_assoc text others end_text in
      let byte : (i : ℕ) → get_or (bytes_of rest) i 0 ≡ get_or (bytes_of (text ++ tail)) i 0 = λ i. ap (λ t. get_or (bytes_of t) i 0) is in
      let gap : 255 - q ≡ 256 - (q + 1) = omega arith in
      record {
        q = q;
        kind = byte 0 ∙ byte_here q ms tail fits 0;
        count = byte 1 ∙ byte_here q ms tail fits 1 ∙ sym (add-one (length ms));
        named = byte 2 ∙ byte_here q ms tail fits 2;
        mills = ap (λ t. bytes_of (take (2 * length ms) (drop 6 t))) is ∙ mills_here q ms tail fits;
        long = omega (arith, ap length is, long_here q ms tail fits);
        more = ap (drop (2 * length ms + 9)) is ∙ more_here q ms tail fits ∙ ap (λ n. entries_text m (q + 1) n ++ end_text) gap;
        before = next.between program a.low;
      }

  pub look : EndHere m program rest ⊎ EntryHere m program rest
  look =
      ⊎_elim
      (λ (left : NoneLeft m a.from (256 - a.from)). inl (end_here left))
      (λ (next : NextIs m a.from (256 - a.from)). inr (entry_here next))
      (next_entry_lem m a.from (256 - a.from) (let low = a.low in omega arith))

-- the entries begin behind the line with the count of mills
pub ahead_first : (text : List ℕ) (program : ℕ) → is_ok (sheet_of text) ≡ true → Ahead (meaning_of (sheet_of text)) program (take (length text - 9) (drop 9 text))
ahead_first text program ok =
    let m = meaning_of (sheet_of text) in
    let is = canonical text m (ok_meaning (sheet_of text) ok) in
    record {
      from = 0;
      low = omega arith;
      text = take_rest text 9 ∙ ap (drop 9) is ∙ drop_at (count_text m.mills) (entries_text m 0 256 ++ end_text) 9 (length_frame (record { kind = 1; payload = m.mills ∷ [] }));
    }

pub lawful_here : (text : List ℕ) → is_ok (sheet_of text) ≡ true → Lawful (meaning_of (sheet_of text))
lawful_here text ok = lawful_sheet text (meaning_of (sheet_of text)) (ok_meaning (sheet_of text) ok)

-- what the source asks of the frame that it stands on
module _ (m : Meaning) (law : Lawful m) (program : ℕ) (small : program < 256) (rest : List ℕ) (a : Ahead m program rest) where
  pub long_ahead : 7 ≤ length rest
  long_ahead =
      ⊎_elim (λ (e : EndHere m program rest). e.long) (λ (e : EntryHere m program rest). let long = e.long in omega arith) (look m law program small rest a)

  pub not_listed : (get_or (bytes_of rest) 0 0 ≡ 2 → ⊥) → mills_for m program ≡ []
  not_listed other =
      ⊎_elim (λ (e : EndHere m program rest). e.none) (λ (e : EntryHere m program rest). absurd (other e.kind)) (look m law program small rest a)

  pub an_entry : get_or (bytes_of rest) 0 0 ≡ 2 → EntryHere m program rest
  an_entry two =
      ⊎_elim (λ (e : EndHere m program rest). let fifteen = e.kind in absurd (omega arith)) (λ (e : EntryHere m program rest). e) (look m law program small rest a)

-- and of the program frame there
module _ (m : Meaning) (program : ℕ) (rest : List ℕ) (e : EntryHere m program rest) where
  pub entry_long : (1 ≤ get_or (bytes_of rest) 1 0) × (2 * get_or (bytes_of rest) 1 0 + 7 ≤ length rest)
  entry_long = let c = e.count in let long = e.long in (omega arith, omega arith)

  module _ (entry : Entry) (after : List ℕ) (front : FrontEntry rest entry after) where
    pub entry_mills : entry.program.0 ≡ program → bytes_of entry.mills.now ≡ mills_for m program
    entry_mills named =
        let c = e.count in
        let same : e.q ≡ program = sym e.named ∙ sym front.program ∙ named in
        let size : 2 * get_or (bytes_of rest) 1 0 - 2 ≡ 2 * length (mills_for m e.q) = omega arith in
        ap bytes_of (front.mills ∙ ap (λ k. take k (drop 6 rest)) size) ∙ e.mills ∙ ap (mills_for m) same

    pub entry_past : program < entry.program.0 → mills_for m program ≡ []
    entry_past past = let named = e.named in let is = front.program in e.before (omega arith)

    pub entry_skipped : entry.program.0 < program → Ahead m program after
    entry_skipped low =
        let c = e.count in
        let named = e.named in
        let is = front.program in
        let size : 2 * get_or (bytes_of rest) 1 0 + 7 ≡ 2 * length (mills_for m e.q) + 9 = omega arith in
        record {
          from = e.q + 1;
          low = omega arith;
          text = front.rest_is ∙ ap (λ k. drop k rest) size ∙ e.more;
        }

-- the same, at the meaning of a text that was found to be a sheet
module _ (text : List ℕ) (ok : is_ok (sheet_of text) ≡ true) (program : ℕ) (small : program < 256) where
  abbrev pub meant : Meaning
  meant = meaning_of (sheet_of text)

  pub sheet_long : 9 ≤ length text
  sheet_long =
      omega (arith, ap length (canonical text meant (ok_meaning (sheet_of text) ok)), length-append (count_text meant.mills) (entries_text meant 0 256 ++ end_text), length_frame (record { kind = 1; payload = meant.mills ∷ [] }))

  pub at_first : (7 ≤ length (take (length text - 9) (drop 9 text))) × Ahead meant program (take (length text - 9) (drop 9 text))
  at_first = let a = ahead_first text program ok in (long_ahead meant (lawful_here text ok) program small _ a, a)

  module _ (rest : List ℕ) (a : Ahead meant program rest) where
    pub nothing_listed : (get_or (bytes_of rest) 0 0 ≡ 2 → ⊥) → mills_for meant program ≡ []
    nothing_listed = not_listed meant (lawful_here text ok) program small rest a

    pub entry_at : get_or (bytes_of rest) 0 0 ≡ 2 → EntryHere meant program rest
    entry_at = an_entry meant (lawful_here text ok) program small rest a

    pub at_next : (two : get_or (bytes_of rest) 0 0 ≡ 2) (entry : Entry) (after : List ℕ) → FrontEntry rest entry after → entry.program.0 < program → (7 ≤ length after) × Ahead meant program after
    at_next two entry after front low =
        let b = entry_skipped meant program rest (entry_at two) entry after front low in
        (long_ahead meant (lawful_here text ok) program small after b, b)

-- a meaning with a mill was read from a sheet; one without has no able pair
pub some_mill : (r : Result Meaning Refusal) → 0 < (meaning_of r).mills → is_ok r ≡ true
some_mill (Ok m) h = refl
some_mill (Err e) h = absurd (omega arith)

pub no_mill_lem : (m : Meaning) → Lawful m → m.mills ≤ 0 → (p k : ℕ) → m.able p k ≡ false
no_mill_lem m law none p k = ⊎_elim (λ able. absurd (let below = law.mill p k able in omega arith)) (λ e. e) (cases_Bool (m.able p k))
