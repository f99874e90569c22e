-- A text that is written over an area piece by piece: one piece behind the other is the two as one piece.
use Rattle.std.proofs.Common.{◌≡◌, ℕ, ◌+◌, ◌<◌, ◌≤◌, List, [], ◌∷◌, ◌++◌, length, take, drop, set, sym, refl, ap, ◌∙◌, add-zero, zero-add, add-one, arith}
use lib.Seq.{paste}
use Rattle.std.proofs.lemmas.List.Edits.{length-paste, paste_all, paste-paste}
use Rattle.std.proofs.lemmas.List.{length-append, set_split, take-append-drop}
use Rattle.sheet.specs.Area.{put}

pub put-none : (place : ℕ) (area : List ℕ) → put place [] area ≡ area
unfolding put
put-none place area = ap (λ n. take place area ++ drop n area) (add-zero place) ∙ take-append-drop place area

pub put_front : (text area : List ℕ) → put 0 text area ≡ text ++ drop (length text) area
unfolding put
put_front text area = ap (λ n. text ++ drop n area) (zero-add (length text))

put_paste : (place : ℕ) (text area : List ℕ) (n : ℕ) → n ≡ length text → paste area place text n ≡ put place text area
unfolding put
put_paste place text area n e = paste_all area place text n e ∙ ap (λ k. take place area ++ (text ++ drop (place + k) area)) e

pub put-put : (place next : ℕ) (first second area : List ℕ) → place ≤ length area → next ≡ place + length first → put next second (put place first area) ≡ put place (first ++ second) area
put-put place next first second area room e =
    ap (λ n. put n second (put place first area)) e
    ∙ ap (put (place + length first) second) (sym (put_paste place first area (length first) refl))
    ∙ sym (put_paste (place + length first) second (paste area place first (length first)) (length second) refl)
    ∙ paste-paste area place first second (length first) (length second) refl refl room
    ∙ put_paste place (first ++ second) area (length first + length second) (sym (length-append first second))

pub put_one : (place c : ℕ) (area : List ℕ) → place < length area → set area place c ≡ put place (c ∷ []) area
unfolding put
put_one place c area room = set_split area place c room ∙ ap (λ n. take place area ++ c ∷ drop n area) (sym (add-one place))

pub length-put : (place : ℕ) (text area : List ℕ) → place + length text ≤ length area → length (put place text area) ≡ length area
length-put place text area room =
    ap length (sym (put_paste place text area (length text) refl)) ∙ length-paste area place text (length text) room (omega arith)

pub put_two : (place c d : ℕ) (area : List ℕ) → place + 2 ≤ length area → set (set area place c) (place + 1) d ≡ put place (c ∷ d ∷ []) area
put_two place c d area room =
    let first = put_one place c area (omega arith) in
    ap (λ a. set a (place + 1) d) first
    ∙ put_one (place + 1) d (put place (c ∷ []) area) (omega (arith, length-put place (c ∷ []) area (omega arith)))
    ∙ put-put place (place + 1) (c ∷ []) (d ∷ []) area (omega arith) refl
