use Rattle.fab_reach_base.specs.Views.{seen}
use Rattle.fab_desk_base.specs.Tenants.{Has}
use Rattle.fab_desk_trials.proofs.CommandTenants.{named_added}
use Rattle.fab_desk_trials.proofs.touched.add_named.Goals as goal

pub returns : goal.returns
returns g c =
    named_added c.args.world.now c.args.command.now (seen c.view_of-view.result) c.args.steps.now (Has c.args.tenants.now) (Has c.add_body.new.tenants) (Has c.add_steps.new.tenants) c.view_of-view.ensures c.requires c.in_ok-add_body.ensures c.in_ok-add_steps.ensures
