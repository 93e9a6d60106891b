use Rattle.fab_store.proofs.NewDesk.{new_desk_holds, new_world_is_written}
use Rattle.fab_world.proofs.NewWorld.{new_world_is_sound}
use Rattle.fab_store.proofs.laws.new_desk_has_the_new_world.Goals as goal

pub returns-clause-holds : goal.returns-clause-holds
returns-clause-holds c = new_desk_holds

pub returns-clause-written : goal.returns-clause-written
returns-clause-written c = new_world_is_written

pub returns-clause-sound : goal.returns-clause-sound
returns-clause-sound c = new_world_is_sound
