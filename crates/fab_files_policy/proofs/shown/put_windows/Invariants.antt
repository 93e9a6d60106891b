use Rattle.std.proofs.Common.{drop}
use Rattle.std.specs.List.{flat_map}
use Rattle.fab_wire_streams.proofs.Turns.{Gone}
use Rattle.fab_files_policy.specs.Shown.{window_lines}
use Rattle.fab_files_policy.proofs.shown.put_windows.Given as goal

abbrev pub invariant-loop-window : goal.invariant-loop-window
invariant-loop-window g l = Gone g.S.Sink.took l.fn.sink l.sink (flat_map window_lines l.fn.windows) (flat_map window_lines (drop l.window-index l.windows))
