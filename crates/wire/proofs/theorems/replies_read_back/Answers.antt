use Rattle.wire.proofs.ReadingBack.{read_back}
use Rattle.wire.proofs.theorems.replies_read_back.Goals as goal

pub returns : goal.returns
returns c = read_back
