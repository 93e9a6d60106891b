use Rattle.std.proofs.Common.{◌≡◌, subst, rules}
use Rattle.std.proofs.lemmas.List.Elements.{same_from_all_zip}
use Rattle.fab_reach_base.specs.Adding.{Adds}
use Rattle.fab_desk_base.specs.Tenants.{Has}
use Rattle.fab_desk_trials.specs.Gathered.{IsOfCommand}
use Rattle.fab_desk_trials.proofs.CommandTenants.{touched_listed}
use Rattle.fab_desk_trials.proofs.touched.touched.Goals as goal

pub returns : goal.returns
returns g c =
    let copied : c.in_ok-tenants.tenants.keys ≡ c.args.moved.now.keys = same_from_all_zip _ _ _ c.in_ok-tenants.ensures.cases (λ x y k. search rules) in
    touched_listed c.args.world.now c.args.caller.now c.args.command.now c.args.moved.now c.add_named.new.tenants c.in_ok-list.list.items c.requires.moved
    (subst (λ xs. Adds (IsOfCommand c.args.world.now c.args.command.now) (Has (record { keys = xs })) (Has c.add_named.new.tenants)) copied c.in_ok-add_named.ensures) c.in_ok-list.ensures
