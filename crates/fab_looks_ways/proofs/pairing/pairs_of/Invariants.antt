use Rattle.std.proofs.Common.{◌≡◌, List, ◌++◌}
use Rattle.std.specs.List.{AllZip}
use Rattle.fab_world.specs.Worlds.{records_of}
use Rattle.fab_looks_ways.specs.Inner.Ties.{IsMemo}
use Rattle.fab_looks_ways.specs.Pairs.{TellsPair}
use Rattle.fab_looks_ways.specs.declared.ends.Ends.{Ends}
use Rattle.fab_looks_ways.proofs.pairing.pairs_of.Given as goal

abbrev pub invariant-loop-these : goal.invariant-loop-these
invariant-loop-these g l = (before : List Ends) × (l.ends.keys ≡ before ++ l.these-iterator) × IsMemo (records_of l.world) l.memo × AllZip (TellsPair (records_of l.world)) before l.pairs.items
