use Rattle.std.proofs.Common.{sym}
use Rattle.fab_desk_trials.proofs.TenantSets.{volume_added}
use Rattle.fab_desk_trials.proofs.things.add_volume.Goals as goal

pub returns : goal.returns
returns g c = volume_added c.args.inventory.now c.args.name.now c.in-Some.volume c.args.tenants.now c.insert.new.self (sym c.in-Some.ensures.volume) c.in_ok-insert.ensures.updates.0
