use Rattle.std.proofs.Common.{◌≡◌, ◌*◌, ◌≤◌, length, take, map}
use Rattle.std.specs.List.{flat_map}
use Rattle.fab_plans_base.specs.Values.{of_name}
use Rattle.fab_plans_base.specs.Plans.{spaced}
use Rattle.fab_plans_text.proofs.measure.names_len.Given as goal

abbrev pub invariant-loop-name : goal.invariant-loop-name
invariant-loop-name l = record {
  counted : l.len ≡ length (flat_map spaced (map of_name (take l.name-index l.names)));
  few : l.len ≤ 71 * l.name-index;
}
