-- What writing a sheet answers: why it is refused, and what the area holds when it is not.
use Rattle.std.proofs.Common.{◌≡◌, ℕ, ◌<◌, ◌≤◌, cond, eqb, ltb, List, ◌++◌, length, take, drop, Some, None, Option, Result, sym, refl, ap, ◌∙◌, subst, arith, MatchResult}
use Rattle.std.proofs.lemmas.List.{take_at}
use Rattle.std.proofs.lemmas.Bool.{cond-true, cond-false, ne_eqb, lt-ltb, le-ltb}
use Rattle.vocabulary.specs.declared.refusal.Refusal.{Refusal}
use Rattle.vocabulary.specs.declared.refusal.Refusal.TheVariants.{ShortArea, NoMills}
use Rattle.capability.specs.Meaning.{Meaning}
use Rattle.capability.specs.Copied.{copied}
use Rattle.capability.specs.declared.abilities.Abilities.{Abilities}
use Rattle.sheet.specs.Area.{put, unwritten, Wrote}
use Rattle.sheet.specs.Copies.{sheet_for}
use Rattle.sheet.specs.Sheets.{sheet_of}
use Rattle.sheet.specs.Written.{sheet_text}
use Rattle.sheet.proofs.PutLaws.{put_front}
use Rattle.sheet.proofs.ReadBack.{read_back}

-- the refusal of so many mills in so much room, where a text of length `long` is to be written
abbrev refusal : ℕ → ℕ → ℕ → Option Refusal
refusal mills room long = cond (eqb mills 0) (Some NoMills) (cond (ltb room long) (Some (ShortArea long)) None)

too_short : (mills room long : ℕ) → (mills ≡ 0 → ⊥) → room < long → refusal mills room long ≡ Some (ShortArea long)
too_short mills room long some short = cond-false _ _ _ (ne_eqb mills 0 some) ∙ cond-true _ _ _ (lt-ltb room long short)

long_enough : (mills room long : ℕ) → (mills ≡ 0 → ⊥) → long ≤ room → refusal mills room long ≡ None
long_enough mills room long some enough = cond-false _ _ _ (ne_eqb mills 0 some) ∙ cond-false _ _ _ (le-ltb room long enough)

module _ (abilities : Abilities) where
  same_text : sheet_for abilities ≡ sheet_text (copied abilities)
  unfolding sheet_for
  same_text = refl

  same_length : length (sheet_for abilities) ≡ length (sheet_text (copied abilities))
  same_length = ap length same_text

  module _ (mills : ℕ) (count : mills ≡ (copied abilities).mills) (room : ℕ) where
    module _ (some : mills ≡ 0 → ⊥) (needed : ℕ) (is : needed ≡ length (sheet_for abilities)) where
      has_mills : (copied abilities).mills ≡ 0 → ⊥
      has_mills none = some (count ∙ none)

      long : needed ≡ length (sheet_text (copied abilities))
      long = is ∙ same_length

      pub without_room : room < needed → unwritten (copied abilities) room ≡ Some (ShortArea needed)
      without_room short =
          too_short (copied abilities).mills room (length (sheet_text (copied abilities))) has_mills (subst (λ n. room < n) long short)
          ∙ ap (λ n. Some (ShortArea n)) (sym long)

      pub with_room : needed ≤ room → unwritten (copied abilities) room ≡ None
      with_room enough =
          long_enough (copied abilities).mills room (length (sheet_text (copied abilities))) has_mills (subst (λ n. n ≤ room) long enough)

      pub wrote : (before after : List ℕ) → needed ≤ 35088 → after ≡ put 0 (sheet_for abilities) before → Wrote (copied abilities) before needed after
      wrote before after short text =
          let meant = copied abilities in
          let back = sym is in
          let whole : after ≡ sheet_text meant ++ drop needed before = text ∙ put_front (sheet_for abilities) before ∙ (λ i. same_text i ++ drop (back i) before) in
          record {
            length_is = long;
            short = short;
            text = whole;
            reads_back = ap (λ t. sheet_of (take needed t)) whole ∙ ap sheet_of (take_at (sheet_text meant) (drop needed before) needed (sym long)) ∙ read_back meant abilities.lawful (omega arith);
          }

-- what is answered of copied abilities is answered of what they were copied from
abbrev Answered : List ℕ → Result ℕ Refusal → List ℕ → Meaning → Type 0
Answered before r after meant =
    MatchResult r (λ long. (unwritten meant (length before) ≡ None) × Wrote meant before long after) (λ e. (unwritten meant (length before) ≡ Some e) × (after ≡ before))

pub answered : (before : List ℕ) (r : Result ℕ Refusal) (after : List ℕ) (copy meant : Meaning) → copy ≡ meant → Answered before r after copy → Answered before r after meant
answered before r after copy meant same h = subst (Answered before r after) same h
