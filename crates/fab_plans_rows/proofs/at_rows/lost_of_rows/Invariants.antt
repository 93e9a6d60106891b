use Rattle.std.proofs.Common.{take}
use Rattle.std.specs.FinMap as map
use Rattle.fab_lemmas.specs.Firsts.{IsFirstOf}
use Rattle.fab_plans_rows.specs.Inner.Losses.{lost_cmp, RowLacks, Among}
use Rattle.fab_plans_rows.proofs.at_rows.lost_of_rows.Given as goal

abbrev pub invariant-loop-row : goal.invariant-loop-row
invariant-loop-row g l = IsFirstOf lost_cmp (Among (RowLacks l.inventory (map.get l.mapping.groups)) (take l.row-index l.come)) l.least
