use Rattle.std.proofs.Common.{◌≡◌, List, ◌++◌}
use Rattle.std.specs.BTreeSet.{BTreeSet}
use Rattle.std.specs.Option.{option_copied}
use Rattle.fab_reach_base.specs.Adding.{Adds}
use Rattle.fab_reach_base.proofs.Adding.{Before}
use Rattle.fab_store_rows.specs.Gathering.{Has, Lacking, RowOfSome}
use Rattle.fab_store_rows.proofs.gathering.add_sets.Given as goal

abbrev pub invariant-loop-key : goal.invariant-loop-key
invariant-loop-key g l =
    (before : List (_ × BTreeSet _)) × (l.fn.sets ≡ before ++ l.key-iterator) × Adds (Before (λ e. Lacking (option_copied l.without) (RowOfSome (g.M.Maker.row_of l.maker e.0) e.1.keys)) before) (Has l.fn.rows) (Has l.rows)
