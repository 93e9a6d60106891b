use Rattle.std.proofs.Common.{rules, sym, subst}
use Rattle.fab_world.specs.Soundness.{IsSound}
use Rattle.fab_world.proofs.NewWorld.{new_world_is_sound}
use Rattle.fab_world.proofs.world.World.new.Goals as goal

pub returns-clause-new : goal.returns-clause-new
returns-clause-new g c = search rules

pub returns-clause-sound : goal.returns-clause-sound
returns-clause-sound g c = subst IsSound (sym (returns-clause-new g c)) new_world_is_sound
