use Rattle.fab_wire_base.proofs.ExistenceLemmas.{spells_some}
use Rattle.fab_wire_base.proofs.laws.every_input_spells_something.Goals as goal

pub returns : goal.returns
returns c = spells_some
