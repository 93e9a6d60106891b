use Rattle.fab_wire_base.proofs.SpellingLemmas.{spells_one}
use Rattle.fab_wire_base.proofs.laws.inputs_spell_one_thing.Goals as goal

pub returns : goal.returns
returns c = spells_one
