use Rattle.std.proofs.Common.{◌≡◌, ℕ, List, ◌++◌}
use Rattle.fab_desk_commands.proofs.Copies.{IsCopySoFar}
use Rattle.fab_desk_commands.proofs.turning.copied.Given as goal

abbrev pub invariant-loop-caller : goal.invariant-loop-caller
invariant-loop-caller g l = (before : List (List ℕ × ℕ)) × (l.approvals.entries ≡ before ++ l.caller-iterator) × IsCopySoFar l.approvals l.copy before
