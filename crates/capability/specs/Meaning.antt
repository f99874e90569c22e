-- What a capability source means: how many mills a shop has, and which of them can cut which program.
use Rattle.std.specs.Prelude.{◌≡◌, ℕ, ◌<◌, ◌≤◌, Bool, true, false}

pub record Meaning : Type 0 where
  pub mills : ℕ
  -- of a program and a mill: whether the mill can cut it
  pub able : ℕ → ℕ → Bool

-- The law of a source: at most 64 mills, and an able pair is of a program (0 to 255) and a mill below the count.
pub record Lawful (meaning : Meaning) : Type 0 where
  pub few : meaning.mills ≤ 64
  pub program : (p m : ℕ) → meaning.able p m ≡ true → p < 256
  pub mill : (p m : ℕ) → meaning.able p m ≡ true → m < meaning.mills

-- no mill and no able pair
abbrev pub nothing : Meaning
nothing = record { mills = 0; able = λ _ _. false }
