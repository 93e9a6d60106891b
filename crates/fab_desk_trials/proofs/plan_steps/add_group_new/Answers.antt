use Rattle.fab_reach_base.specs.Views.{seen}
use Rattle.fab_desk_base.specs.Tenants.{Has}
use Rattle.fab_desk_trials.proofs.StepTenants.{of_group_new}
use Rattle.fab_desk_trials.proofs.plan_steps.add_group_new.Goals as goal

pub returns : goal.returns
returns g c array =
    of_group_new (seen c.args.view.now) c.args.name.now c.args.tenant.now array (Has c.args.tenants.now) (Has c.add_tenant.new.tenants) (Has c.add_group.new.tenants) c.in_ok-add_tenant.ensures c.in_ok-add_group.ensures
