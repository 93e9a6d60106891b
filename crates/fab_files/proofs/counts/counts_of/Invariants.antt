use Rattle.std.proofs.Common.{take}
use Rattle.fab_files.specs.Counting.{AreCounted}
use Rattle.fab_files.proofs.counts.counts_of.Given as goal

abbrev pub invariant-loop-path : goal.invariant-loop-path
invariant-loop-path g l = AreCounted (take l.path-index l.paths) l.counts
