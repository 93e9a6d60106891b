use Rattle.std.proofs.Common.{◌≡◌, ◌-◌, length, slice_get, Some, sym, ap, ◌∙◌}
use Rattle.std.specs.Cmp.Lexicographic.{bytes_decides}
use Rattle.fab_desk_base.specs.declared.reply.ZoneMembers.{ZoneMembers}
use Rattle.fab_reach_base.proofs.Same.{same_some}
use Rattle.fab_desk_base.proofs.active.ends_in.Goals as goal

pub returns-in-Some : goal.returns-in-Some
returns-in-Some g c =
    let zones = c.args.zones.now in
    let last = c.in-Some.last.now in
    let there : slice_get zones (length zones - 1) ≡ Some last = sym c.in-Some.ensures.value in
    let same = bytes_decides last.name c.args.name.now in (
      λ t. (last, there, same.0 (sym c.eq.ensures ∙ t)),
      λ h. c.eq.ensures ∙ same.1 (ap (λ (z : ZoneMembers _). z.name) (same_some there h.1) ∙ h.2),
    )
