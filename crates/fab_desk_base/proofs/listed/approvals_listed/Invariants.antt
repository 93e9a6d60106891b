use Rattle.std.proofs.Common.{◌≡◌, ℕ, List, ◌++◌}
use Rattle.fab_desk_base.specs.Showing.{AreEntries}
use Rattle.fab_desk_base.proofs.listed.approvals_listed.Given as goal

abbrev pub invariant-loop-caller : goal.invariant-loop-caller
invariant-loop-caller g l = (before : List (List ℕ × ℕ)) × (l.approvals.entries ≡ before ++ l.caller-iterator) × AreEntries before l.items.items
