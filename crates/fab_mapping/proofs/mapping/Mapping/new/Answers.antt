use Rattle.fab_mapping.proofs.Keeping.{nothing_is_sound, nothing_fits}
use Rattle.fab_mapping.proofs.mapping.Mapping.new.Goals as goal

pub returns-clause-sound : goal.returns-clause-sound
returns-clause-sound g c = nothing_is_sound c.new.result.entries c.new-2.result.entries c.new.ensures.empty c.new-2.ensures.empty

pub returns-clause-fits : goal.returns-clause-fits
returns-clause-fits g c inventory = nothing_fits c.new.result.entries c.new-2.result.entries c.new.ensures.empty c.new-2.ensures.empty inventory
