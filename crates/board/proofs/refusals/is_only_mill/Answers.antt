use Rattle.std.proofs.Common.{sym, ◌∙◌}
use Rattle.board.proofs.CauseLaws.{only_since, empty_since}
use Rattle.board.proofs.refusals.is_only_mill.Goals as goal

pub returns : goal.returns
returns c =
    let set = c.mills_for-others.result in
    let others = c.remove.new.self in (
      λ empty. only_since c.args.table.now c.args.mill.0 c.args.program.0 set others c.mills_for-others.ensures c.remove.ensures (sym c.is_empty.ensures ∙ empty),
      λ only. c.is_empty.ensures ∙ empty_since c.args.table.now c.args.mill.0 c.args.program.0 set others c.mills_for-others.ensures c.remove.ensures only,
    )
