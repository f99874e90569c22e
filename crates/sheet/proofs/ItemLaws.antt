-- Which frames are items of a sheet, and which items are due.
use Rattle.std.proofs.Common.{◌≡◌, ℕ, ◌+◌, ◌≤◌, Bool, true, cond, ◌&&◌, eqb, leb, List, [], ◌∷◌, length, get_or, drop, Some, None, Ok, Err, Option, sym, refl, ap, ◌∙◌, subst, arith}
use Rattle.std.proofs.lemmas.List.{nil_from_length}
use Rattle.std.proofs.lemmas.Bool.{and_parts, and_from, cond-true, le-leb, leb-true, eqb-true}
use Rattle.vocabulary.specs.declared.refusal.Refusal.TheVariants.{WrongValue}
use Rattle.sheet.specs.Frames.{Frame}
use Rattle.sheet.specs.Sheets.{Entry, Item, count, entry, end, item_of, rising, count_due, entry_due}
use Rattle.sheet.proofs.OkLaws.{ok_inside, ok_from_cond}

-- the frames of the three items
abbrev pub count_frame : ℕ → Frame
count_frame n = record { kind = 1; payload = n ∷ [] }

abbrev pub entry_frame : Entry → Frame
entry_frame e = record { kind = 2; payload = e.program ∷ e.mills }

abbrev pub end_frame : Frame
end_frame = record { kind = 15; payload = [] }

pub item_entry : (e : Entry) → 1 ≤ length e.mills → length e.mills ≤ 64 → item_of (entry_frame e) ≡ Some (entry e)
item_entry e some few =
    cond-true _ _ _ (and_from _ _ (le-leb 2 (length (entry_frame e).payload) (omega arith)) (le-leb (length (entry_frame e).payload) 65 (omega arith)))

pub entry_due_lem : (mills floor i : ℕ) (e : Entry) → floor ≤ e.program → rising 0 mills e.mills ≡ true → entry_due mills floor i (Some (entry e)) ≡ Ok (Some e)
entry_due_lem mills floor i e high rise = cond-true _ _ (Err (WrongValue i)) (and_from _ _ (le-leb floor e.program high) rise)

pub count_due_lem : (i n : ℕ) → 1 ≤ n → n ≤ 64 → count_due i (Some (count n)) ≡ Ok n
count_due_lem i n some few = cond-true _ _ (Err (WrongValue i)) (and_from _ _ (le-leb 1 n some) (le-leb n 64 few))

-- what was due and came
pub from_count_due : (i n : ℕ) (o : Option Item) → count_due i o ≡ Ok n → (o ≡ Some (count n)) × (1 ≤ n) × (n ≤ 64)
from_count_due i n None h = absurd (grind arith)
from_count_due i n (Some end) h = absurd (grind arith)
from_count_due i n (Some (entry e)) h = absurd (grind arith)
from_count_due i n (Some (count k)) h =
    let passed = ok_from_cond (leb 1 k && leb k 64) (Ok k) (WrongValue i) n h in
    let parts = and_parts (leb 1 k) (leb k 64) passed.0 in
    let same = ok_inside k n passed.1 in
    (ap (λ n. Some (count n)) same, omega (arith, leb-true 1 k parts.0), omega (arith, leb-true k 64 parts.1))

pub from_entry_due : (mills floor i : ℕ) (e : Entry) (o : Option Item) → entry_due mills floor i o ≡ Ok (Some e) → (o ≡ Some (entry e)) × (floor ≤ e.program) × (rising 0 mills e.mills ≡ true)
from_entry_due mills floor i e None h = absurd (grind arith)
from_entry_due mills floor i e (Some end) h = absurd (grind arith)
from_entry_due mills floor i e (Some (count k)) h = absurd (grind arith)
from_entry_due mills floor i e (Some (entry d)) h =
    let passed = ok_from_cond (leb floor d.program && rising 0 mills d.mills) (Ok (Some d)) (WrongValue i) (Some e) h in
    let parts = and_parts (leb floor d.program) (rising 0 mills d.mills) passed.0 in
    let same : d ≡ e = cc in
    (ap (λ e. Some (entry e)) same, subst (λ e. floor ≤ e.program) same (leb-true floor d.program parts.0), ap (λ e. rising 0 mills e.mills) (sym same) ∙ parts.1)

pub from_end_due : (mills floor i : ℕ) (o : Option Item) → entry_due mills floor i o ≡ Ok None → o ≡ Some end
from_end_due mills floor i None h = absurd (grind arith)
from_end_due mills floor i (Some end) h = refl
from_end_due mills floor i (Some (count k)) h = absurd (grind arith)
from_end_due mills floor i (Some (entry d)) h =
    let passed = ok_from_cond (leb floor d.program && rising 0 mills d.mills) (Ok (Some d)) (WrongValue i) None h in
    cc

-- an item by its three tests
abbrev picked : Bool → Bool → Bool → ℕ → Entry → Option Item
picked a b c n e = cond a (Some (count n)) (cond b (Some (entry e)) (cond c (Some end) None))

picked_count : (a b c : Bool) (n k : ℕ) (e : Entry) → picked a b c n e ≡ Some (count k) → (a ≡ true) × (n ≡ k)
picked_count a b c n k e h = (grind arith, grind arith)

picked_entry : (a b c : Bool) (n : ℕ) (e d : Entry) → picked a b c n e ≡ Some (entry d) → (b ≡ true) × (e ≡ d)
picked_entry a b c n e d h = (grind arith, grind arith)

picked_end : (a b c : Bool) (n : ℕ) (e : Entry) → picked a b c n e ≡ Some end → c ≡ true
picked_end a b c n e h = grind arith

-- a list of one, and of one and more
one : (xs : List ℕ) → length xs ≡ 1 → xs ≡ get_or xs 0 0 ∷ []
one [] h = absurd (omega arith)
one (x ∷ []) h = refl
one (x ∷ y ∷ xs) h = absurd (omega arith)

first_and_rest : (xs : List ℕ) → 1 ≤ length xs → (xs ≡ get_or xs 0 0 ∷ drop 1 xs) × (length xs ≡ length (drop 1 xs) + 1)
first_and_rest [] h = absurd (omega arith)
first_and_rest (x ∷ xs) h = (refl, omega arith)

-- what a frame was
module _ (f : Frame) where
  abbrev is_count : Bool
  is_count = eqb f.kind 1 && eqb (length f.payload) 1

  abbrev is_entry : Bool
  is_entry = eqb f.kind 2 && (leb 2 (length f.payload) && leb (length f.payload) 65)

  abbrev is_end : Bool
  is_end = eqb f.kind 15 && eqb (length f.payload) 0

  abbrev as_entry : Entry
  as_entry = record { program = get_or f.payload 0 0; mills = drop 1 f.payload }

  pub from_item_count : (n : ℕ) → item_of f ≡ Some (count n) → f ≡ count_frame n
  from_item_count n h =
      let tests = picked_count is_count is_entry is_end (get_or f.payload 0 0) n as_entry h in
      let parts = and_parts (eqb f.kind 1) (eqb (length f.payload) 1) tests.0 in
      let whole = one f.payload (eqb-true (length f.payload) 1 parts.1) ∙ ap (λ n. n ∷ []) tests.1 in
      λ i. record { kind = eqb-true f.kind 1 parts.0 i; payload = whole i }

  pub from_item_end : item_of f ≡ Some end → f ≡ end_frame
  from_item_end h =
      let test = picked_end is_count is_entry is_end (get_or f.payload 0 0) as_entry h in
      let parts = and_parts (eqb f.kind 15) (eqb (length f.payload) 0) test in
      let none = nil_from_length f.payload (eqb-true (length f.payload) 0 parts.1) in
      λ i. record { kind = eqb-true f.kind 15 parts.0 i; payload = none i }

  pub from_item_entry : (e : Entry) → item_of f ≡ Some (entry e) → (f ≡ entry_frame e) × (1 ≤ length e.mills) × (length e.mills ≤ 64)
  from_item_entry e h =
      let tests = picked_entry is_count is_entry is_end (get_or f.payload 0 0) as_entry e h in
      let first = and_parts (eqb f.kind 2) (leb 2 (length f.payload) && leb (length f.payload) 65) tests.0 in
      let second = and_parts (leb 2 (length f.payload)) (leb (length f.payload) 65) first.1 in
      let low = leb-true 2 (length f.payload) second.0 in
      let high = leb-true (length f.payload) 65 second.1 in
      let split = first_and_rest f.payload (omega arith) in
      let same = tests.1 in
      let long : length e.mills ≡ length (drop 1 f.payload) = ap (λ e. length e.mills) (sym same) in (
        (λ i. record { kind = eqb-true f.kind 2 first.0 i; payload = (split.0 ∙ ap (λ e. e.program ∷ e.mills) same) i }),
        omega arith,
        omega arith,
      )
