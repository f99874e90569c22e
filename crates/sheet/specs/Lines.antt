-- A text as lines. A line feed is the character 10.
use Rattle.std.specs.Prelude.{ℕ, cond, List, [], ◌∷◌, ◌==◌}

pub data Lines : Type 0 where
  -- no character is left
  over : Lines
  -- some characters with no line feed behind them
  open_ended : List ℕ → Lines
  -- the characters before the first line feed, and what follows it
  line : List ℕ → Lines → Lines

-- one character more in front
abbrev pub fronted : ℕ → Lines → Lines
fronted c over = open_ended (c ∷ [])
fronted c (open_ended cs) = open_ended (c ∷ cs)
fronted c (line cs rest) = line (c ∷ cs) rest

abbrev pub lines_of : List ℕ → Lines
lines_of [] = over
lines_of (c ∷ cs) = cond (c == 10) (line [] (lines_of cs)) (fronted c (lines_of cs))
