use Rattle.std.proofs.Common.{drop}
use Rattle.std.specs.List.{flat_map}
use Rattle.fab_wire_streams.proofs.Turns.{Gone}
use Rattle.fab_files_policy.specs.Shown.{freeze_line}
use Rattle.fab_files_policy.proofs.shown.put_freezes.Given as goal

abbrev pub invariant-loop-freeze : goal.invariant-loop-freeze
invariant-loop-freeze g l = Gone g.S.Sink.took l.fn.sink l.sink (flat_map freeze_line l.fn.freezes) (flat_map freeze_line (drop l.freeze-index l.freezes))
