use Rattle.std.proofs.Common.{◌≡◌, None, drop}
use Rattle.fab_policy_looks.specs.Inner.Candidates.{with_windows}
use Rattle.fab_policy_looks.proofs.openings.with_windows.Given as goal

abbrev pub invariant-loop-window : goal.invariant-loop-window
invariant-loop-window l = with_windows l.name l.from l.best (drop l.window-index l.windows) ≡ with_windows l.name l.from None l.windows
