use Rattle.std.proofs.Common.{◌≡◌, ℕ, List, ◌++◌}
use Rattle.std.specs.BTreeMap.{get}
use Rattle.fab_reach_base.specs.fab_names.Orders.{name_cmp}
use Rattle.fab_desk_rows.proofs.Given.{SoFar}
use Rattle.fab_desk_rows.proofs.approvals.rows_only_in.Given as goal

abbrev pub invariant-loop-caller : goal.invariant-loop-caller
invariant-loop-caller g l = (before : List (List ℕ × ℕ)) × (l.given.entries ≡ before ++ l.caller-iterator) × SoFar l.plan (get name_cmp l.others) before l.rows.items
