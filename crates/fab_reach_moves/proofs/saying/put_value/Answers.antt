use Rattle.fab_reach_moves.proofs.SaidRows.{said_skip, said_put}
use Rattle.fab_reach_moves.proofs.saying.put_value.Goals as goal

pub returns-in_default : goal.returns-in_default
returns-in_default g c before = said_skip g.met.K.Ord.total g.met.K.Key.exact g.S.Saying.says before c.args.row.now c.args.values.now c.in_default.ensures

pub returns : goal.returns
returns g c before = said_put g.met.K.Ord.total g.met.K.Key.exact g.S.Saying.says g.met.S.Saying.once before c.args.row.now c.in-Some.said.0 c.in-Some.said.1 c.args.values.now c.insert.new.self c.in-Some.ensures c.in_ok-insert.ensures.updates.0
