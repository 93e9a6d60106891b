use Rattle.std.proofs.Common.{ℕ, List, sym, ◌∙◌}
use mathlib.Core.Bool.{true≢false}
use Rattle.std.specs.Cmp.Lexicographic.{bytes_decides}
use Rattle.fab_desk_base.specs.Users.{IsVolumeUser, IsMovedUser}
use Rattle.fab_desk_base.proofs.UsersFound.{found_as}
use Rattle.fab_desk_base.proofs.users.moved_volume_user.Goals as goal

pub returns : goal.returns
returns g c =
    let Uses = IsVolumeUser c.args.mapping.now c.args.name.now in
    let Moved = IsMovedUser c.args.inventory.now c.args.mapping.now c.args.name.now c.args.array.now in
    found_as c.volume_user.result ((user : List ℕ) → ¬ Uses user) ((user : List ℕ) → ¬ Moved user) Uses Moved
    (λ none user is. none user is.1)
    (λ user is. ((c.in-Some.volume, sym c.in-Some.ensures.volume, λ same. true≢false (sym ((bytes_decides c.in-Some.volume.array c.args.array.now).1 same) ∙ sym c.eq.ensures ∙ c.if-eq.false)), is))
    c.volume_user.ensures
