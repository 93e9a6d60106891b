use Rattle.std.proofs.Common.{ℕ, List, subst}
use Rattle.std.proofs.Common.{MatchOption}
use Rattle.fab_desk_base.specs.UserSearch.{AreUntargeted, IsFirstTargeted}
use Rattle.fab_desk_base.proofs.UsersFound.{leaving_found}
use Rattle.fab_desk_base.proofs.users.leaving_target.Goals as goal

pub returns : goal.returns
returns g c =
    leaving_found c.args.inventory.now c.args.mapping.now c.args.array.now c.args.ports.now c.in_ok-leaving.leaving.items c.first_targeted.result c.in_ok-leaving.ensures
    (subst (λ (xs : List ℕ). MatchOption c.first_targeted.result (AreUntargeted c.args.mapping.now xs) (IsFirstTargeted c.args.mapping.now xs)) c.as_slice.ensures.value c.first_targeted.ensures)
