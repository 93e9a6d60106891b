use Rattle.fab_zoning.specs.Edits.{IsIn}
use Rattle.fab_reach_base.proofs.Adding.{adds_none}
use Rattle.fab_reach_moves.proofs.SaidRows.{Says, item_said}
use Rattle.fab_reach_moves.proofs.saying.add_item.Goals as goal

pub returns-in_default : goal.returns-in_default
returns-in_default g c = adds_none (Says g.S.Saying.says c.args.row.now) (IsIn g.K.Ord.cmp g.X.Ord.cmp c.args.sets.now) (λ e h. c.in_default.ensures e.0 e.1 h)

pub returns : goal.returns
returns g c = item_said g.S.Saying.says g.met.S.Saying.once c.args.row.now (c.in-Some.said.0, c.in-Some.said.1) (IsIn g.K.Ord.cmp g.X.Ord.cmp c.args.sets.now) (IsIn g.K.Ord.cmp g.X.Ord.cmp c.add_at.new.sets) c.in-Some.ensures c.in_ok-add_at.ensures
