use Rattle.fab_wire.proofs.Beginnings.{beginnings_serve}
use Rattle.fab_wire.proofs.laws.beginnings_serve.Goals as goal

pub returns : goal.returns
returns g c = beginnings_serve g.S.Store c.args.desk.now
