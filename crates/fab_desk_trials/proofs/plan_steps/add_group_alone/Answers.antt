use Rattle.fab_reach_base.specs.Views.{seen}
use Rattle.fab_desk_base.specs.Tenants.{Has}
use Rattle.fab_desk_trials.proofs.StepTenants.{of_group_alone}
use Rattle.fab_desk_trials.proofs.plan_steps.add_group_alone.Goals as goal

pub returns : goal.returns
returns g c = of_group_alone (seen c.args.view.now) c.args.name.now (Has c.args.tenants.now) (Has c.add_group.new.tenants) c.in_ok-add_group.ensures
