-- The lines of moved tickets: how long they are, and one line more.
use Rattle.std.proofs.Common.{◌≡◌, ℕ, ◌+◌, ◌*◌, ◌<◌, List, [], ◌∷◌, ◌++◌, length, get_or, take, sym, refl, ap, ◌∙◌, arith}
use Rattle.std.proofs.lemmas.List.{flat_map_more, length-append, take_more}
use Rattle.sheet.specs.Frames.{frame_text}
use Rattle.sheet.proofs.FrameLaws.{length_frame}
use Rattle.board.specs.declared.moves.Move.{Move}
use Rattle.wire.specs.Replies.{move_frame, moves_text}

-- a line for each moved ticket, of 15 characters
length_move : (r : Move) → length (frame_text (move_frame r)) ≡ 15
length_move r = length_frame (move_frame r)

pub length_moves : (rs : List Move) → length (moves_text rs) ≡ 15 * length rs
length_moves [] = refl
length_moves (r ∷ rs) = omega (arith, length-append (frame_text (move_frame r)) (moves_text rs), length_move r, length_moves rs)

pub moves_more : (rs : List Move) (i : ℕ) (d : Move) → i < length rs → moves_text (take i rs) ++ frame_text (move_frame (get_or rs i d)) ≡ moves_text (take (i + 1) rs)
moves_more rs i d below = flat_map_more (λ r. frame_text (move_frame r)) [] (take i rs) (get_or rs i d) ∙ ap moves_text (sym (take_more rs i d below))
