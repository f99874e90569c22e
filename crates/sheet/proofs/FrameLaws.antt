-- A frame that is written on a line is read again, and a line that is read as a frame is the one that writes it.
use Rattle.std.proofs.Common.{◌≡◌, ℕ, ◌+◌, ◌-◌, ◌*◌, ◌%◌, ◌<◌, ◌≤◌, true, eqb, List, [], ◌∷◌, ◌++◌, length, get_or, take, drop, Ok, Err, sum, sym, ap, ◌∙◌, subst, arith}
use Rattle.std.specs.List.{flat_map, AllByRecursion as All}
use Rattle.std.proofs.ByRecursion.{All-push, All-get_or, All-take, All-drop}
use Rattle.std.proofs.lemmas.List.{append_assoc, length_push, length-take, length-take-le, take_at, take_more, take_all}
use Rattle.std.proofs.lemmas.List.Sums.{sum_by_push}
use Rattle.std.proofs.lemmas.Bool.{and_parts, and_from, cond-true, eq-eqb, eqb-true, le-leb, leb-true}
use Rattle.vocabulary.specs.declared.refusal.Refusal.TheVariants.{BadLine, WrongCount, WrongSum}
use Rattle.sheet.specs.Digits.{bytes_of, all_digits, digits_for}
use Rattle.sheet.specs.Lines.{line, lines_of}
use Rattle.sheet.specs.Frames.{Frame, well_formed, framed, checked, frame_in, check_for, head_bytes, frame_bytes, frame_text}
use Rattle.sheet.proofs.DigitLaws.{bytes_back, all_digits_back, length_digits, bytes_small, digits_again, length_bytes}
use Rattle.sheet.proofs.LineLaws.{lines_line, digits_plain}
use Rattle.sheet.proofs.OkLaws.{ok_inside, ok_from_cond}

-- a frame that a line can hold
abbrev pub Fits : Frame → Type 0
Fits f = (f.kind < 256) × (length f.payload ≤ 255) × All (λ b. b < 256) f.payload

pub length_bytes_frame : (f : Frame) → length (frame_bytes f) ≡ length f.payload + 3
length_bytes_frame f = omega (arith, length_push f.payload (check_for (head_bytes f)))

pub length_frame : (f : Frame) → length (frame_text f) ≡ 2 * (length f.payload + 3) + 1
length_frame f =
    omega (arith, length_push (flat_map digits_for (frame_bytes f)) 10, length_digits (frame_bytes f), length_bytes_frame f)

pub fits_bytes : (f : Frame) → Fits f → All (λ b. b < 256) (frame_bytes f)
fits_bytes f fits = All-push (λ b. b < 256) (head_bytes f) (check_for (head_bytes f)) (fits.0, (omega arith, fits.2)) (omega arith)

-- with its check byte a list of bytes sums to a multiple of 256
check_sum : (bs : List ℕ) → sum (bs ++ (check_for bs ∷ [])) % 256 ≡ 0
check_sum bs = omega (arith, sum_by_push (λ x. x) bs (check_for bs))

-- and no other byte does that
check_only : (bs : List ℕ) (c : ℕ) → c < 256 → sum (bs ++ (c ∷ [])) % 256 ≡ 0 → check_for bs ≡ c
check_only bs c small e = omega (arith, sum_by_push (λ x. x) bs c)

framed_back : (f : Frame) → framed (frame_bytes f) ≡ f
framed_back f =
    let same = take_at f.payload (check_for (head_bytes f) ∷ []) (length (frame_bytes f) - 3) (omega (arith, length_bytes_frame f)) in
    λ i. record { kind = f.kind; payload = same i }

-- the digits of 3 to 258 bytes are a line
well_formed_lem : (cs : List ℕ) (n : ℕ) → all_digits cs ≡ true → length cs ≡ 2 * n → 3 ≤ n → n ≤ 258 → well_formed cs ≡ true
well_formed_lem cs n digits long low high =
    and_from _ _ digits (and_from _ _ (eq-eqb (length cs % 2) 0 (omega arith)) (and_from _ _ (le-leb 6 (length cs) (omega arith)) (le-leb (length cs) 516 (omega arith))))

checked_back : (i : ℕ) (f : Frame) → checked i (frame_bytes f) ≡ Ok f
checked_back i f =
    cond-true _ _ _ (eq-eqb _ (length (frame_bytes f) - 3) (omega (arith, length_bytes_frame f)))
    ∙ cond-true _ _ _ (eq-eqb _ 0 (check_sum (head_bytes f)))
    ∙ ap Ok (framed_back f)

pub frame_back : (i : ℕ) (f : Frame) → Fits f → frame_in i (flat_map digits_for (frame_bytes f)) ≡ Ok f
frame_back i f fits =
    let small = fits_bytes f fits in
    let count = length_bytes_frame f in
    let well = well_formed_lem (flat_map digits_for (frame_bytes f)) (length (frame_bytes f)) (all_digits_back (frame_bytes f) small) (length_digits (frame_bytes f)) (omega arith) (omega arith) in
    cond-true _ _ (Err (BadLine i)) well
    ∙ ap (checked i) (bytes_back (frame_bytes f) small)
    ∙ checked_back i f

frame_bytes_again : (bs : List ℕ) → 3 ≤ length bs → get_or bs 1 0 ≡ length bs - 3 → sum bs % 256 ≡ 0 → All (λ b. b < 256) bs → frame_bytes (framed bs) ≡ bs
frame_bytes_again [] long count sums small = absurd (omega arith)
frame_bytes_again (k ∷ []) long count sums small = absurd (omega arith)
frame_bytes_again (k ∷ n ∷ rest) long count sums small =
    let bs = k ∷ n ∷ rest in
    let m = length bs - 3 in
    let last = get_or rest m 0 in
    let size : n ≡ length (take m rest) = count ∙ sym (length-take-le m rest (omega arith)) in
    let whole : rest ≡ take m rest ++ (last ∷ []) = sym (take_all (m + 1) rest (omega arith)) ∙ take_more rest m 0 (omega arith) in
    let split : bs ≡ head_bytes (framed bs) ++ (last ∷ []) = λ i. k ∷ size i ∷ whole i in
    let check = check_only (head_bytes (framed bs)) last (All-get_or (λ b. b < 256) rest m 0 (omega arith) small.1.1) (ap (λ l. sum l % 256) (sym split) ∙ sums) in
    ap (λ c. head_bytes (framed bs) ++ (c ∷ [])) check ∙ sym split

framed-fits : (bs : List ℕ) → 3 ≤ length bs → length bs ≤ 258 → All (λ b. b < 256) bs → Fits (framed bs)
framed-fits bs low high small = (
  All-get_or (λ b. b < 256) bs 0 0 (omega arith) small,
  omega (arith, length-take (length bs - 3) (drop 2 bs)),
  All-take (λ b. b < 256) (length bs - 3) (drop 2 bs) (All-drop (λ b. b < 256) 2 bs small),
)

-- what a line is that is read as a frame
record Passed (cs : List ℕ) (f : Frame) : Type 0 where
  digits : all_digits cs ≡ true
  even : length cs % 2 ≡ 0
  low : 6 ≤ length cs
  high : length cs ≤ 516
  count : get_or (bytes_of cs) 1 0 ≡ length (bytes_of cs) - 3
  sums : sum (bytes_of cs) % 256 ≡ 0
  is : framed (bytes_of cs) ≡ f

passed : (i : ℕ) (cs : List ℕ) (f : Frame) → frame_in i cs ≡ Ok f → Passed cs f
passed i cs f h =
    let well = ok_from_cond (well_formed cs) (checked i (bytes_of cs)) (BadLine i) f h in
    let first = and_parts _ _ well.0 in
    let second = and_parts _ _ first.1 in
    let third = and_parts _ _ second.1 in
    let counted = ok_from_cond (eqb (get_or (bytes_of cs) 1 0) (length (bytes_of cs) - 3)) _ (WrongCount i) f well.1 in
    let summed = ok_from_cond (eqb (sum (bytes_of cs) % 256) 0) _ (WrongSum i) f counted.1 in
    record {
      digits = first.0;
      even = eqb-true _ 0 second.0;
      low = leb-true 6 _ third.0;
      high = leb-true _ 516 third.1;
      count = eqb-true _ _ counted.0;
      sums = eqb-true _ 0 summed.0;
      is = ok_inside _ _ summed.1;
    }

pub frame_again : (i : ℕ) (cs : List ℕ) (f : Frame) → frame_in i cs ≡ Ok f → (cs ≡ flat_map digits_for (frame_bytes f)) × Fits f
frame_again i cs f h =
    let p = passed i cs f h in
    let half = length_bytes cs in
    let small = bytes_small cs in
    let low : 3 ≤ length (bytes_of cs) = omega (arith, p.low) in
    let high : length (bytes_of cs) ≤ 258 = omega (arith, p.high) in (
      sym (digits_again cs p.digits p.even) ∙ ap (flat_map digits_for) (sym (frame_bytes_again (bytes_of cs) low p.count p.sums small) ∙ ap frame_bytes p.is),
      subst Fits p.is (framed-fits (bytes_of cs) low high small),
    )

-- a text that begins with a frame has its line first
pub lines_frame : (f : Frame) (rest : List ℕ) → Fits f → lines_of (frame_text f ++ rest) ≡ line (flat_map digits_for (frame_bytes f)) (lines_of rest)
lines_frame f rest fits =
    let cs = flat_map digits_for (frame_bytes f) in
    ap lines_of (append_assoc cs (10 ∷ []) rest) ∙ lines_line cs rest (digits_plain cs (all_digits_back (frame_bytes f) (fits_bytes f fits)))
