use Rattle.std.proofs.Common.{◌≡◌, Bool, take}
use Rattle.fab_reach_books.specs.declared.row.Row.TheVariants.{DefaultZone}
use Rattle.fab_reach_moves.proofs.RowLoops.{NoneOf}
use Rattle.fab_reach_books.specs.declared.row.Row.{Row}
use Rattle.fab_reach_moves.proofs.groups.says_flag_among.Given as goal

abbrev pub invariant-loop-row : goal.invariant-loop-row
invariant-loop-row l = NoneOf (λ (r : Row). (p : Bool) × (r ≡ DefaultZone l.fabric p)) (take l.row-index l.rows)
