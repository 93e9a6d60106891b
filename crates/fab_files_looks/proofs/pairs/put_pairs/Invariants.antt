use Rattle.std.proofs.Common.{drop}
use Rattle.std.specs.List.{flat_map}
use Rattle.fab_wire_streams.proofs.Turns.{Gone}
use Rattle.fab_files_looks.specs.Pairs.{pair_line}
use Rattle.fab_files_looks.proofs.pairs.put_pairs.Given as goal

abbrev pub invariant-loop-pair : goal.invariant-loop-pair
invariant-loop-pair g l = Gone g.S.Sink.took l.fn.sink l.sink (flat_map pair_line l.fn.pairs) (flat_map pair_line (drop l.pair-index l.pairs))
