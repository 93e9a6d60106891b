use Rattle.fab_reach_base.specs.Views.{seen}
use Rattle.fab_desk_base.specs.Tenants.{Has}
use Rattle.fab_desk_trials.proofs.StepTenants.{of_host_group_put}
use Rattle.fab_desk_trials.proofs.plan_steps.add_host_group_put.Goals as goal

pub returns : goal.returns
returns g c =
    of_host_group_put (seen c.args.view.now) c.args.name.now c.args.tenant.now c.args.hosts.now (Has c.args.tenants.now) (Has c.add_tenant.new.tenants) (Has c.add_host_group.new.tenants) (Has c.add_hosts.new.tenants) c.in_ok-add_tenant.ensures c.in_ok-add_host_group.ensures c.in_ok-add_hosts.ensures
