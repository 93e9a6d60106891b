use Rattle.fab_reach_base.specs.fab_inventory.declared.holder.HolderKind.TheVariants as kind
use Rattle.fab_reach_base.proofs.Adding.{before_next}
use Rattle.fab_desk_base.specs.Tenants.{Has, IsHolderOf}
use Rattle.fab_desk_trials.proofs.plan_steps.add_hosts.Goals as goal

pub loop-host-preserved : goal.loop-host-preserved
loop-host-preserved g c =
    before_next (IsHolderOf c.args.view.now.inventory.now kind.Host) c.args.hosts.now c.loop-host.host-index c.host-item.result (Has c.args.tenants.now) (Has c.loop-host.tenants) (Has c.add_holder.new.tenants) c.loop-host-test.true c.host-item.is c.loop-host.invariant c.in_ok-add_holder.ensures
