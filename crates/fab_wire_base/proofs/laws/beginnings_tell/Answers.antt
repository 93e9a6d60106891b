use Rattle.fab_wire_base.proofs.WholeLemmas.{beginnings-tell}
use Rattle.fab_wire_base.proofs.laws.beginnings_tell.Goals as goal

pub returns : goal.returns
returns c = beginnings-tell
