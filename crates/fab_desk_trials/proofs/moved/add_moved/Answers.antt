use Rattle.std.proofs.Common.{subst}
use Rattle.fab_reach_base.specs.Adding.{Adds}
use Rattle.fab_reach_base.specs.Views.{seen}
use Rattle.fab_desk_base.specs.Tenants.{Has}
use Rattle.fab_desk_trials.specs.Gathered.{IsOfSomePath}
use Rattle.fab_desk_trials.proofs.PathTenants.{moved_added}
use Rattle.fab_desk_trials.proofs.moved.add_moved.Goals as goal

pub returns : goal.returns
returns g c =
    moved_added (seen c.args.before.now) (seen c.args.after.now) c.args.delta.now.gained.items c.args.delta.now.lost.items (Has c.args.tenants.now) (Has c.add_paths.new.tenants) (Has c.add_paths-2.new.tenants) c.requires
    (subst (λ xs. Adds (IsOfSomePath (seen c.args.after.now) xs) (Has c.args.tenants.now) (Has c.add_paths.new.tenants)) c.deref.ensures.value c.in_ok-add_paths.ensures)
    (subst (λ xs. Adds (IsOfSomePath (seen c.args.before.now) xs) (Has c.add_paths.new.tenants) (Has c.add_paths-2.new.tenants)) c.deref-2.ensures.value c.in_ok-add_paths-2.ensures)
