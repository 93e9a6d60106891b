use Rattle.std.proofs.Common.{◌≡◌, List, ◌++◌}
use Rattle.std.specs.Option.{option_copied}
use Rattle.fab_reach_base.specs.Adding.{Adds}
use Rattle.fab_reach_base.proofs.Adding.{Before}
use Rattle.fab_store_rows.specs.Gathering.{Has, Lacking}
use Rattle.fab_store_rows.proofs.gathering.add_set.Given as goal

abbrev pub invariant-loop-item : goal.invariant-loop-item
invariant-loop-item g l =
    (before : List _) × (l.fn.items ≡ before ++ l.item-iterator) × Adds (Before (λ e. Lacking (option_copied l.without) (λ r. r ≡ g.M.Maker.row_of l.maker l.key e)) before) (Has l.fn.rows) (Has l.rows)
