use Rattle.std.proofs.Common.{ℕ, List, MatchOption, sym, subst}
use Rattle.std.specs.FinMap as map
use Rattle.fab_reach_base.specs.fab_inventory.declared.holder.HolderKind.{HolderKind}
use Rattle.fab_reach_base.specs.fab_mapping_base.Groups.{HoldsHost, IsOfArray}
use Rattle.fab_desk_base.specs.Users.{IsHolderUser}
use Rattle.fab_desk_base.proofs.UsersFound.{user_found}
use Rattle.fab_desk_base.proofs.users.holder_user.Goals as goal

pub returns-in-Host : goal.returns-in-Host
returns-in-Host g c =
    subst (λ (k : HolderKind). MatchOption c.host_group_with.result ((user : List ℕ) → ¬ IsHolderUser c.args.mapping.now k c.args.name.now user) (IsHolderUser c.args.mapping.now k c.args.name.now)) (sym c.in-Host.is)
    (user_found (map.get c.args.mapping.now.host_groups) (HoldsHost c.args.name.now) c.host_group_with.result c.host_group_with.ensures)

pub returns-in-Array : goal.returns-in-Array
returns-in-Array g c =
    subst (λ (k : HolderKind). MatchOption c.group_of_array.result ((user : List ℕ) → ¬ IsHolderUser c.args.mapping.now k c.args.name.now user) (IsHolderUser c.args.mapping.now k c.args.name.now)) (sym c.in-Array.is)
    (user_found (map.get c.args.mapping.now.groups) (IsOfArray c.args.name.now) c.group_of_array.result c.group_of_array.ensures)
