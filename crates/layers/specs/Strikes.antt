-- Strikes: pairs of a program and a mill that a layer takes out of what lies below it.
use Rattle.std.specs.Prelude.{◌≡◌, ℕ, Bool, cond, not, ◌&&◌, ◌||◌, List, Ok, Result, ◌==◌}
use Rattle.std.specs.List.{list_any}
use Rattle.vocabulary.specs.declared.refusal.Refusal.{Refusal}
use Rattle.capability.specs.Meaning.{Meaning}
use Rattle.layers.specs.Tables.{added}
use Rattle.layers.specs.declared.strikes.Pair.{Pair}

abbrev pub pair : ℕ → ℕ → Pair
pair p m = record { program = record { 0 = p }; mill = record { 0 = m } }

-- whether a pair is this one
abbrev pub is_pair : ℕ → ℕ → Pair → Bool
is_pair p m x = x.program.0 == p && x.mill.0 == m

-- whether a mill is struck for a program
abbrev pub struck : List Pair → ℕ → ℕ → Bool
struck pairs p m = list_any (is_pair p m) pairs

-- the struck pairs after a strike: one that is held already changes nothing, and a further one may find no room
abbrev pub after_strike : ℕ → ℕ → List Pair → Result (List Pair) Refusal
after_strike p m pairs = cond (struck pairs p m) (Ok pairs) (added (pair p m) pairs)

-- a strike that was taken: that mill is struck for that program now, and otherwise what was struck before
pub record Strike (p m : ℕ) (before after : List Pair) : Type 0 where
  pub table : after_strike p m before ≡ Ok after
  pub adds : (q n : ℕ) → struck after q n ≡ ((q == p && n == m) || struck before q n)

-- what is left of a meaning without the struck pairs
abbrev pub without : List Pair → Meaning → Meaning
without pairs below = record { mills = below.mills; able = λ p m. below.able p m && not (struck pairs p m) }
