use Rattle.fab_reach_base.proofs.fab_names.OrderLaws.{name_total, name_exact}
use Rattle.fab_reach_base.proofs.Sets.{adds_insert}
use Rattle.fab_desk_trials.proofs.things.add_tenant.Goals as goal

pub returns : goal.returns
returns g c = adds_insert name_total name_exact c.args.tenants.now c.insert.new.self c.args.tenant.now c.in_ok-insert.ensures.updates.0
