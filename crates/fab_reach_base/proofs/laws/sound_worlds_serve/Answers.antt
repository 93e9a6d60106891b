use Rattle.fab_reach_base.proofs.Lawful.{serves}
use Rattle.fab_reach_base.proofs.laws.sound_worlds_serve.Goals as goal

pub returns : goal.returns
returns c = serves
