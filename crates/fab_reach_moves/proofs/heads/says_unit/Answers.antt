use Rattle.fab_reach_moves.proofs.HeadsAfter.{unit_said}
use Rattle.fab_reach_moves.proofs.heads.says_unit.Goals as goal

pub returns : goal.returns
returns g c rows s = unit_said rows c.args.side.now.units s.units c.args.name.now c.contains_key.result c.contains_key.ensures
