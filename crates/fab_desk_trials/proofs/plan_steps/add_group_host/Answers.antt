use Rattle.fab_reach_base.specs.Views.{seen}
use Rattle.fab_desk_base.specs.Tenants.{Has}
use Rattle.fab_desk_trials.proofs.StepTenants.{of_group_host}
use Rattle.fab_desk_trials.proofs.plan_steps.add_group_host.Goals as goal

pub returns : goal.returns
returns g c =
    of_group_host (seen c.args.view.now) c.args.name.now c.args.host_group.now (Has c.args.tenants.now) (Has c.add_group.new.tenants) (Has c.add_host_group.new.tenants) c.in_ok-add_group.ensures c.in_ok-add_host_group.ensures
