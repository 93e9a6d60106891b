use Rattle.std.proofs.Common.{◌≡◌, take}
use Rattle.fab_reach_base.specs.Adding.{Adds}
use Rattle.fab_reach_base.proofs.Adding.{Before}
use Rattle.fab_reach_moves.specs.Inner.Changing.{Key, HasKey, active_of}
use Rattle.fab_reach_books.specs.declared.row.Row.{Row}
use Rattle.fab_reach_moves.proofs.changes.add_keys.Given as goal

abbrev pub invariant-loop-row : goal.invariant-loop-row
invariant-loop-row g l = Adds (Before (λ (r : Row) (k : Key). r ≡ active_of k) (take l.row-index l.rows)) (HasKey l.fn.keys) (HasKey l.keys)
