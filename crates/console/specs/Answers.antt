-- A line with the text area that its answer is written into.
use Rattle.std.specs.Prelude.{◌≡◌, ℕ, ◌<◌, ◌≤◌, List, ◌++◌, length, drop, Ok, Err, Result}
use Rattle.vocabulary.specs.declared.refusal.Refusal.{Refusal}
use Rattle.vocabulary.specs.declared.refusal.Refusal.TheVariants.{ShortArea}
use Rattle.capability.specs.Meaning.{Meaning}
use Rattle.board.specs.declared.moves.Move.{Move}
use Rattle.wire.specs.Replies.{reply_text}
use Rattle.wire.specs.declared.reply.Reply.{Reply}
use Rattle.console.specs.Commands.{LineBy}
use Rattle.console.specs.States.{State}

-- an area of under 16,384 bytes is refused, and the line is not read
pub record TooShort (before : State) (area : List ℕ) (after : State) (answer : Result ℕ Refusal) (area' : List ℕ) : Type 0 where
  pub answered : answer ≡ Err (ShortArea 16384)
  pub unchanged : after ≡ before
  pub untouched : area' ≡ area

-- otherwise the answer stands at the front of the area, and what was behind it stays; the move list is the console's own, with room
-- for every ticket
pub record Written (source : Meaning) (before : State) (line : List ℕ) (area : List ℕ) (after : State) (answer : Result ℕ Refusal) (area' : List ℕ) : Type 0 where
  pub reply : Reply
  pub list : List Move
  pub list' : List Move
  pub room : length list ≡ 1024
  pub obeyed : LineBy source before line after reply list list'
  pub answered : answer ≡ Ok (length (reply_text reply list'))
  pub text : area' ≡ reply_text reply list' ++ drop (length (reply_text reply list')) area

-- a line to a console over a source of this meaning, by the length of the area
pub record Answered (source : Meaning) (before : State) (line : List ℕ) (area : List ℕ) (after : State) (answer : Result ℕ Refusal) (area' : List ℕ) : Type 0 where
  pub short : length area < 16384 → TooShort before area after answer area'
  pub enough : 16384 ≤ length area → Written source before line area after answer area'
