use Rattle.std.proofs.Common.{refl}
use Rattle.sheet.proofs.AppendSteps.{both}
use Rattle.wire.proofs.ReplySteps.{length_lines}
use Rattle.wire.proofs.writer.put_lines.Goals as goal

pub returns : goal.returns
returns c = record { text = both refl c.put_head.ensures c.put_moves.ensures; short = length_lines c.args.reply c.args.moves.now }
