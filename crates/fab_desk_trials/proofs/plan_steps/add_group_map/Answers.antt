use Rattle.fab_reach_base.specs.Views.{seen}
use Rattle.fab_desk_base.specs.Tenants.{Has}
use Rattle.fab_desk_trials.proofs.StepTenants.{of_group_map}
use Rattle.fab_desk_trials.proofs.plan_steps.add_group_map.Goals as goal

pub returns : goal.returns
returns g c unit =
    of_group_map (seen c.args.view.now) c.args.name.now c.args.volume.now unit (Has c.args.tenants.now) (Has c.add_group.new.tenants) (Has c.add_volume.new.tenants) c.in_ok-add_group.ensures c.in_ok-add_volume.ensures
