use Rattle.std.proofs.Common.{rules}
use Rattle.fab_policy_looks.proofs.FirstOpen.{is_opening}
use Rattle.fab_policy_looks.proofs.openings.opening.Goals as goal

pub returns : goal.returns
returns c = is_opening c.args.name.now c.args.from c.args.windows.now c.with_windows.result c.with_windows.ensures (search (rules, c.with_windows.type_inv))
