use Rattle.fab_reach_base.specs.Views.{seen}
use Rattle.fab_desk_base.specs.Tenants.{Has, IsVolumeOf}
use Rattle.fab_desk_trials.specs.Gathered.{IsInitiatorTenant}
use Rattle.fab_desk_trials.proofs.TenantSets.{both_added}
use Rattle.fab_desk_trials.proofs.moved.add_path.Goals as goal

pub returns : goal.returns
returns g c =
    both_added (IsInitiatorTenant (seen c.args.view.now) c.args.path.now.initiator) (IsVolumeOf c.args.view.now.inventory.now c.args.path.now.volume) (Has c.args.tenants.now) (Has c.add_initiator.new.tenants) (Has c.add_volume.new.tenants) c.in_ok-add_initiator.ensures c.in_ok-add_volume.ensures
