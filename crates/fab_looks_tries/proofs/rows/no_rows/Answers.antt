use Rattle.fab_looks_tries.proofs.Unmoved.{same_rows}
use Rattle.fab_looks_tries.proofs.rows.no_rows.Goals as goal

pub returns : goal.returns
returns g c w = same_rows w c.new.result.items c.new-2.result.items c.new.ensures.items c.new-2.ensures.items
