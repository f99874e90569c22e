use Rattle.std.proofs.Common.{◌^◌, ◌<◌, rules}
use Rattle.sets.specs.Sets.{has}
use Rattle.sets.proofs.Holds.{holds_past}
use Rattle.tools.proofs.ToolSteps.{passes_all}
use Rattle.tools.proofs.magazine.Magazine.has_all.Goals as goal

pub returns : goal.returns
returns c =
    let fits : c.args.needed.bits < 2 ^ 64 = search rules in
    passes_all (has c.args.needed) (has c.args.self.tools) c.is_subset.result (λ k le. holds_past c.args.needed.bits k fits le) c.is_subset.ensures
