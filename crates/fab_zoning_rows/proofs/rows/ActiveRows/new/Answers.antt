use Rattle.std.proofs.Common.{◌+◌, min, sym, ap, ◌∙◌}
use Rattle.std.specs.FinSet as set
use Rattle.fab_zoning_rows.specs.Limits.{most_rows}
use Rattle.fab_zoning_rows.specs.Rows.{row_cmp}
use Rattle.fab_zoning_rows.specs.Views.{seen_rows}
use Rattle.fab_zoning_rows.proofs.rows.ActiveRows.new.Goals as goal

pub invariant_of-result : goal.invariant_of-result
invariant_of-result g c = (c.new.ensures.ordered, sym (ap (λ es. min (set.len (seen_rows es)) (most_rows + 1)) c.new.ensures.empty ∙ ap (λ n. min n (most_rows + 1)) (set.len-empty row_cmp)))

pub returns : goal.returns
returns g c = ap seen_rows c.new.ensures.empty
