-- What one frame of a sheet does to what the rest of it lists: the steps of the sheet reader.
use Rattle.std.proofs.Common.{◌≡◌, ℕ, suc, ◌<◌, List, length, Some, None, Ok, Err, Option, Result, sym, refl, ap, ◌∙◌, subst}
use Rattle.std.specs.Result as results
use Rattle.vocabulary.specs.declared.refusal.Refusal.{Refusal}
use Rattle.vocabulary.specs.declared.refusal.Refusal.TheVariants.{NotDue}
use Rattle.capability.specs.Meaning.{Meaning}
use Rattle.sheet.specs.declared.frame.SheetFrame.{SheetFrame}
use Rattle.sheet.specs.Lines.{Lines, over, open_ended, line, lines_of}
use Rattle.sheet.specs.Frames.{Frame, frame_in, after_first}
use Rattle.sheet.specs.Sheets.{Entry, Item, item_of, and_then, first_item, count_due, entry_due, Able, listing, going_on, at_end, entries_in, sheet_in, sheet_of, meaning_of}
use Rattle.sheet.specs.Content.{item, known, Came}
use Rattle.sheet.specs.Reading.{ahead, Opened, Listed}
use Rattle.sheet.specs.declared.reader.SheetReader.{SheetReader}
use Rattle.sheet.proofs.ItemLaws.{from_count_due, from_entry_due}
use Rattle.sheet.proofs.LineLaws.{text_of, text_again}

-- an item is read before it is looked at
item_first : {B : Type 0} (r : Result Frame Refusal) (k : Option Item → Result B Refusal) → and_then r (λ f. k (item_of f)) ≡ and_then (and_then r (λ f. Ok (item_of f))) k
item_first (Ok f) k = refl
item_first (Err e) k = refl

-- what the lines behind the first one add to its item
abbrev entries_after : ℕ → ℕ → ℕ → Lines → Option Item → Result Able Refusal
entries_after mills floor number rest o =
    and_then (entry_due mills floor number o) (going_on (λ e. entries_in mills (suc e.program) (suc number) rest) (at_end number rest))

abbrev meant : ℕ → Able → Result Meaning Refusal
meant mills able = Ok (record { mills = mills; able = able })

abbrev sheet_after : Lines → Option Item → Result Meaning Refusal
sheet_after rest o = and_then (count_due 1 o) (λ mills. and_then (entries_in mills 0 2 rest) (meant mills))

entries_first : (mills floor number : ℕ) (l : Lines) → entries_in mills floor number l ≡ and_then (first_item number l) (entries_after mills floor number (after_first l))
entries_first mills floor number over = refl
entries_first mills floor number (open_ended cs) = refl
entries_first mills floor number (line cs rest) = item_first (frame_in number cs) (entries_after mills floor number rest)

sheet_first : (l : Lines) → sheet_in l ≡ and_then (first_item 1 l) (sheet_after (after_first l))
sheet_first over = refl
sheet_first (open_ended cs) = refl
sheet_first (line cs rest) = item_first (frame_in 1 cs) (sheet_after rest)

-- where no frame of a sheet comes first, whatever comes after the first item is refused as it is
no_frame : {B : Type 0} (number : ℕ) (r : Result (Option Item) Refusal) (k : Option Item → Result B Refusal) → k None ≡ Err (NotDue number) → (e : Refusal) → and_then r (known number) ≡ Err e → and_then r k ≡ Err e
no_frame number (Ok (Some i)) k none e h = cc
no_frame number (Ok None) k none e h = none ∙ cc
no_frame number (Err f) k none e h = cc

module _ (text : List ℕ) where
  pub opening_fault : (e : Refusal) → and_then (first_item 1 (lines_of text)) (known 1) ≡ Err e → sheet_of text ≡ Err e
  opening_fault e h = sheet_first (lines_of text) ∙ no_frame 1 (first_item 1 (lines_of text)) (sheet_after (after_first (lines_of text))) refl e h

  module _ (frame : SheetFrame) (rest : List ℕ) (came : Came 1 text (Some frame) rest) where
    opened : sheet_of text ≡ sheet_after (lines_of rest) (Some (item frame))
    opened =
        sheet_first (lines_of text)
        ∙ ap (λ r. and_then r (sheet_after (after_first (lines_of text)))) came.first
        ∙ ap (λ l. sheet_after l (Some (item frame))) (sym came.after)

    pub count_fault : (e : Refusal) → count_due 1 (Some (item frame)) ≡ Err e → sheet_of text ≡ Err e
    count_fault e h = opened ∙ ap (λ r. and_then r (λ mills. and_then (entries_in mills 0 2 (lines_of rest)) (meant mills))) h

    pub sheet_opened : (reader : SheetReader) → reader.rest.now ≡ rest → reader.line ≡ 2 → reader.floor ≡ 0 → count_due 1 (Some (item frame)) ≡ Ok reader.mills → Opened text reader
    sheet_opened reader left second first h =
        let due = from_count_due 1 reader.mills (Some (item frame)) h in
        record {
          some = due.1;
          few = due.2;
          first = first;
          second_line = second;
          reads = opened
              ∙ ap (λ r. and_then r (λ mills. and_then (entries_in mills 0 2 (lines_of rest)) (meant mills))) h
              ∙ (λ j. and_then (entries_in reader.mills (sym first j) (sym second j) (lines_of (sym left j))) (meant reader.mills));
        }

-- what a reader's next frame is due as
abbrev pub due_as : SheetReader → SheetFrame → Result (Option Entry) Refusal
due_as reader frame = entry_due reader.mills reader.floor reader.line (Some (item frame))

module _ (before : SheetReader) where
  pub entry_fault : (e : Refusal) → and_then (first_item before.line (lines_of before.rest.now)) (known before.line) ≡ Err e → ahead before ≡ Err e
  entry_fault e h =
      entries_first before.mills before.floor before.line (lines_of before.rest.now)
      ∙ no_frame before.line (first_item before.line (lines_of before.rest.now)) (entries_after before.mills before.floor before.line (after_first (lines_of before.rest.now))) refl e h

  module _ (frame : SheetFrame) (rest : List ℕ) (came : Came before.line before.rest.now (Some frame) rest) where
    going : ahead before ≡ entries_after before.mills before.floor before.line (lines_of rest) (Some (item frame))
    going =
        entries_first before.mills before.floor before.line (lines_of before.rest.now)
        ∙ ap (λ r. and_then r (entries_after before.mills before.floor before.line (after_first (lines_of before.rest.now)))) came.first
        ∙ ap (λ l. entries_after before.mills before.floor before.line l (Some (item frame))) (sym came.after)

    due : (o : Result (Option Entry) Refusal) → due_as before frame ≡ o → ahead before ≡ and_then o (going_on (λ e. entries_in before.mills (suc e.program) (suc before.line) (lines_of rest)) (at_end before.line (lines_of rest)))
    due o h = going ∙ ap (λ r. and_then r (going_on (λ e. entries_in before.mills (suc e.program) (suc before.line) (lines_of rest)) (at_end before.line (lines_of rest)))) h

    pub due_fault : (e : Refusal) → due_as before frame ≡ Err e → ahead before ≡ Err e
    due_fault e h = due (Err e) h

    pub entry_listed : (e : Entry) (after : SheetReader) → due_as before frame ≡ Ok (Some e) → after.rest.now ≡ rest → after.mills ≡ before.mills → after.floor ≡ suc e.program → after.line ≡ suc before.line → Listed before e after
    entry_listed e after h left same floor next = record {
      rises = (from_entry_due before.mills before.floor before.line e (Some (item frame)) h).1;
      mills = same;
      floor = floor;
      line = next;
      reads = due (Ok (Some e)) h
          ∙ (λ j. and_then (entries_in (sym same j) (sym floor j) (sym next j) (lines_of (sym left j))) (λ others. Ok (listing e others)));
      shorter = subst (λ l. length l < length before.rest.now) (sym left) came.shorter;
    }

    pub at_end_lem : due_as before frame ≡ Ok None → ahead before ≡ at_end before.line (lines_of rest)
    at_end_lem h = due (Ok None) h

-- characters behind the end frame, however they go on, are not due
past_end : (number : ℕ) (text : List ℕ) (l : Lines) → lines_of text ≡ l → (length text ≡ 0 → ⊥) → at_end number l ≡ Err (NotDue (suc number))
past_end number text over is some = absurd (some (ap length (sym (text_again text) ∙ ap text_of is)))
past_end number text (open_ended cs) is some = refl
past_end number text (line cs rest) is some = refl

pub not_over : (number : ℕ) (text : List ℕ) → (length text ≡ 0 → ⊥) → at_end number (lines_of text) ≡ Err (NotDue (suc number))
not_over number text some = past_end number text (lines_of text) refl some

-- the count of mills, or the fault, is what counts for a check
abbrev pub mills_in : Result Meaning Refusal → Result ℕ Refusal
mills_in = results.result_map_both (λ meaning. meaning.mills) (λ e. e)

abbrev pub verdict : ℕ → Result Able Refusal → Result ℕ Refusal
verdict mills = results.result_map_both (λ _. mills) (λ e. e)

-- where a text is refused, it counts as one of no mills
pub count_or_none : (r : Result Meaning Refusal) → results.result_unwrap_or (mills_in r) 0 ≡ (meaning_of r).mills
count_or_none (Ok meaning) = refl
count_or_none (Err fault) = refl
