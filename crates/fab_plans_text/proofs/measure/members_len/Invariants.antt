use Rattle.std.proofs.Common.{◌≡◌, ◌*◌, ◌≤◌, length, take, map}
use Rattle.std.specs.List.{flat_map}
use Rattle.fab_plans_base.specs.Values.{of_member}
use Rattle.fab_plans_base.specs.Plans.{spaced}
use Rattle.fab_plans_text.proofs.measure.members_len.Given as goal

abbrev pub invariant-loop-member : goal.invariant-loop-member
invariant-loop-member l = record {
  counted : l.len ≡ length (flat_map spaced (map of_member (take l.member-index l.members)));
  few : l.len ≤ 71 * l.member-index;
}
