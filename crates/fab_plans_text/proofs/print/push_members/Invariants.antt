use Rattle.std.proofs.Common.{◌≡◌, ◌++◌, take, map}
use Rattle.std.specs.List.{flat_map}
use Rattle.std.specs.String.{string_bytes}
use Rattle.fab_plans_base.specs.Values.{of_member}
use Rattle.fab_plans_base.specs.Plans.{spaced}
use Rattle.fab_plans_text.proofs.print.push_members.Given as goal

abbrev pub invariant-loop-member : goal.invariant-loop-member
invariant-loop-member g l = string_bytes l.text ≡ string_bytes l.fn.text ++ flat_map spaced (map of_member (take l.member-index l.members))
