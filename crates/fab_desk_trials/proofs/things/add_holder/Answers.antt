use Rattle.std.proofs.Common.{sym, rules}
use Rattle.fab_desk_trials.proofs.TenantSets.{holder_added}
use Rattle.fab_desk_trials.proofs.things.add_holder.Goals as goal

pub returns : goal.returns
returns g c = holder_added c.args.inventory.now c.args.kind c.args.name.now c.in-Some.holder c.args.tenants.now c.insert.new.self (sym c.in-Some.ensures.holder) (search rules) c.in_ok-insert.ensures.updates.0
