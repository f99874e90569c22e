-- A board from its opening through any list of calls.
use Rattle.std.specs.Prelude.{◌≡◌, List, [], ◌∷◌, length, Ok, Err, vec_items, Result}
use Rattle.vocabulary.specs.declared.refusal.Refusal.{Refusal}
use Rattle.capability.specs.Meaning.{Meaning}
use Rattle.table.specs.Tally.{Tally}
use Rattle.search.specs.Rules.{EvenIn}
use Rattle.board.specs.declared.call.Answer.{Answer}
use Rattle.board.specs.declared.call.Call.{Call}
use Rattle.board.specs.declared.moves.Move.{Move}
use Rattle.board.specs.declared.request.Request.{Request}
use Rattle.board.specs.Causes.{Refused}
use Rattle.board.specs.Turns.{Performed}

-- one call with its move list before and after, and its answer: it was refused for its first cause and changed nothing,
-- or it was performed
abbrev pub Turn : Meaning → Call → Tally → Tally → Result Answer Refusal → List Move → List Move → Type 0
Turn meaning call before after (Ok answer) list list' = Performed meaning call before after answer list list'
Turn meaning call before after (Err refusal) list list' = Refused meaning before (length list) call refusal × (after ≡ before) × (list' ≡ list)

-- the requests as they were and as they are after a run from one tally to another: call by call a turn, and even after each
abbrev pub Ran : Meaning → Tally → List Request → List Request → Tally → Type 0
Ran meaning before [] [] after = after ≡ before
Ran meaning before [] (r' ∷ rs') after = ⊥
Ran meaning before (r ∷ rs) [] after = ⊥
Ran meaning before (r ∷ rs) (r' ∷ rs') after =
    (then : Tally) × (r'.call ≡ r.call) × Turn meaning r.call before then r'.answer (vec_items r.moves) (vec_items r'.moves) × EvenIn meaning then × Ran meaning then rs rs' after
