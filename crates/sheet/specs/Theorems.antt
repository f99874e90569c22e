-- What is proved of sheets as a whole.
use Rattle.std.specs.Prelude.{◌≡◌, ℕ, Bool, true, List, Ok}
use Rattle.capability.specs.Meaning.{Meaning}
use Rattle.sheet.specs.Sheets.{sheet_of}

-- two lawful sheets mean the same exactly when they are the same bytes
abbrev pub OneSheetEach : Type 0
OneSheetEach = (a b : List ℕ) (m n : Meaning) → sheet_of a ≡ Ok m → sheet_of b ≡ Ok n → (m ≡ n → a ≡ b) × (a ≡ b → m ≡ n)

-- both texts are lawful sheets, and `same` tells whether they mean the same
pub record Compared (left right : List ℕ) (same : Bool) : Type 0 where
  pub one : Meaning
  pub other : Meaning
  pub left_reads : sheet_of left ≡ Ok one
  pub right_reads : sheet_of right ≡ Ok other
  pub yes_same : same ≡ true → one ≡ other
  pub same_yes : one ≡ other → same ≡ true
