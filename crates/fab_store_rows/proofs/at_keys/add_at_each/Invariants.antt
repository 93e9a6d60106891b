use Rattle.std.proofs.Common.{◌≡◌, List, ◌++◌}
use Rattle.std.specs.Option.{option_copied}
use Rattle.fab_reach_base.specs.Adding.{Adds}
use Rattle.fab_reach_base.proofs.Adding.{Before}
use Rattle.fab_store_rows.specs.declared.row_key.RowKey.{RowKey}
use Rattle.fab_store_rows.specs.Gathering.{Has, Lacking}
use Rattle.fab_store_rows.specs.AtKeys.{IsRowAt}
use Rattle.fab_store_rows.proofs.at_keys.add_at_each.Given as goal

abbrev pub invariant-loop-key : goal.invariant-loop-key
invariant-loop-key g l =
    (before : List RowKey) × (l.keys.keys ≡ before ++ l.key-iterator) × Adds (Before (λ k. Lacking (option_copied l.without) (IsRowAt l.config k)) before) (Has l.initial.rows) (Has l.rows)
