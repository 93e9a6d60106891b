use Rattle.std.proofs.Common.{sym, ◌∙◌}
use mathlib.Core.Bool.{true≢false}
use Rattle.fab_plans_rows.proofs.Firsts.{host_first}
use Rattle.fab_plans_rows.proofs.lost.lost_host.Goals as goal

pub returns : goal.returns
returns g c = host_first c.args.inventory.now c.args.name.now (λ there. true≢false (sym (c.is_host.ensures.1 there) ∙ c.if-is_host.false))
