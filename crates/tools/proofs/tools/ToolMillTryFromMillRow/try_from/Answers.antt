use Rattle.std.proofs.Common.{◌≡◌, ◌^◌, ◌<◌, rules}
use Rattle.sets.proofs.Holds.{same_set}
use Rattle.tools.proofs.tools.ToolMillTryFromMillRow.try_from.Goals as goal

pub returns : goal.returns
returns c =
    let made = c.in_ok-of.field-0.tools.bits in
    let given = c.args.row.tools in
    let made_fits : made < 2 ^ 64 = search rules in
    let given_fits : given < 2 ^ 64 = search rules in
    let same : made ≡ given = same_set made given made_fits given_fits (λ k _. c.in_ok-of.ensures.1 k) in
    (c.in_ok-of.ensures.0, λ i. record { tools = same i; travel = c.args.row.travel })
