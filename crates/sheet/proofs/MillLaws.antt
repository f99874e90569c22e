-- The mills for a program in a lawful meaning: those that are able, few enough for one frame.
use Rattle.std.proofs.Common.{◌≡◌, ℕ, ◌<◌, ◌≤◌, Bool, true, false, ◌&&◌, ltb, List, length, refl, ap, ◌∙◌, arith}
use Rattle.std.proofs.ByRecursion.{All-weaker}
use Rattle.std.proofs.lemmas.Bool.{lt-ltb, and_right}
use Rattle.capability.specs.Meaning.{Meaning, Lawful}
use Rattle.sets.specs.Sets.{member}
use Rattle.sheet.specs.Sheets.{rising}
use Rattle.sheet.specs.Written.{mills_for}
use Rattle.sheet.proofs.FrameLaws.{Fits}
use Rattle.sheet.proofs.ItemLaws.{entry_frame}
use Rattle.sheet.proofs.RisingLaws.{member_kept, rising-below}

-- the listed mills are the able ones
pub able_member : (m : Meaning) → Lawful m → (p q : ℕ) → member q (mills_for m p) ≡ m.able p q
able_member m law p q = member_kept (m.able p) m.mills q ∙ below (m.able p q) refl
  where
    below : (b : Bool) → m.able p q ≡ b → (ltb q m.mills && b) ≡ b
    below true e = ap (λ t. t && true) (lt-ltb q m.mills (law.mill p q e))
    below false e = and_right _ _ refl

-- the frame of a program fits a line
pub fits_entry : (bound p : ℕ) (xs : List ℕ) → bound ≤ 64 → p < 256 → length xs ≤ bound → rising 0 bound xs ≡ true → Fits (entry_frame (record { program = p; mills = xs }))
fits_entry bound p xs few small short rise =
    (omega arith, omega arith, (small, All-weaker (λ x. x < bound) (λ x. x < 256) (λ x h. omega arith) xs (rising-below 0 bound xs rise)))
