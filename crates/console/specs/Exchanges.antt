-- Exchanges: lines with the areas for their answers, as they were lent and as they are answered.
use Rattle.std.specs.Prelude.{◌≡◌, ℕ, cond, List, [], ◌∷◌, length, vec_items, nat_lt}
use Rattle.capability.specs.Meaning.{Meaning}
use Rattle.console.specs.Answers.{Answered}
use Rattle.console.specs.Runs.{RanLines}
use Rattle.console.specs.States.{State, fresh}
use Rattle.console.specs.declared.exchange.Exchange.{Exchange}

-- one exchange, on a console in one state before it and another after it
pub record Exchanged (source : Meaning) (before : State) (lent answered : Exchange) (after : State) : Type 0 where
  pub line : answered.line ≡ lent.line
  pub done : Answered source before (vec_items lent.line) (vec_items lent.area) after answered.answer (vec_items answered.area)

-- the exchanges in turn
abbrev pub ExchangesBy : Meaning → State → List Exchange → List Exchange → State → Type 0
ExchangesBy source before [] [] after = after ≡ before
ExchangesBy source before [] (answered ∷ later) after = ⊥
ExchangesBy source before (lent ∷ rest) [] after = ⊥
ExchangesBy source before (lent ∷ rest) (answered ∷ later) after = (then : State) × Exchanged source before lent answered then × ExchangesBy source then rest later after

-- the lines that were read: those with an area of 16,384 bytes or more
abbrev pub line_read : Exchange → List (List ℕ) → List (List ℕ)
line_read lent others = cond (nat_lt (length (vec_items lent.area)) 16384) others (vec_items lent.line ∷ others)

abbrev pub lines_read : List Exchange → List (List ℕ)
lines_read [] = []
lines_read (lent ∷ rest) = line_read lent (lines_read rest)

-- a console over a source of this meaning, from its beginning through all exchanges: each was answered, and the law over runs of lines
-- holds of the lines that were read
pub record RanExchanges (source : Meaning) (lent answered : List Exchange) (state : State) : Type 0 where
  pub each : ExchangesBy source fresh lent answered state
  pub lines : RanLines source (lines_read lent) state
