use Rattle.fab_inventory.proofs.Restoring.{sound_of_parts, parts_of_sound}
use Rattle.fab_inventory.proofs.laws.sound_by_parts.Goals as goal

pub returns : goal.returns
returns c v = (parts_of_sound v, λ p. sound_of_parts v p.0 p.1 p.2 p.3)
