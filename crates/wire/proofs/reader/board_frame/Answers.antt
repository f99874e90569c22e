use Rattle.std.proofs.Common.{Err, sym, ap, ◌∙◌}
use Rattle.std.proofs.lemmas.Result.{err_from_is_err_and}
use Rattle.sheet.specs.Content.{content}
use Rattle.wire.proofs.CommandSteps.{asks_no_board}
use Rattle.wire.proofs.reader.board_frame.Goals as goal

pub returns-in_err-try_from : goal.returns-in_err-try_from
returns-in_err-try_from c =
    let p = err_from_is_err_and c.from_residual.result c.from_residual.ensures.1 in
    rw (p.1, p.2) (ap Err c.in_err-try_from.ensures.0 ∙ sym (asks_no_board (content c.args.frame) c.in_err-try_from.ensures.1))
