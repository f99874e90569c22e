use Rattle.std.proofs.Common.{sym, ◌∙◌}
use Rattle.sheet.proofs.ByteLaws.{get_or_bytes}
use Rattle.sheet.proofs.digits.byte_at.Goals as goal

pub returns : goal.returns
returns c = c.byte_value.ensures ∙ sym (get_or_bytes c.args.digits.now c.args.index c.requires)
