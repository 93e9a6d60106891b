use Rattle.std.proofs.Common.{sym, ◌∙◌}
use mathlib.Core.Bool.{true≢false}
use Rattle.fab_reach_moves.proofs.HeadsAfter.{units_gone, units_by}
use Rattle.fab_reach_moves.proofs.heads.has_same_units.Goals as goal

pub returns-then-says_unit : goal.returns-then-says_unit
returns-then-says_unit g c w v t = units_gone w v t.gone t.come t.diff c.args.name.now ((c.says_unit.ensures t.gone t.left).0 c.if-says_unit.true)

pub returns : goal.returns
returns g c w v t = units_by w v t.gone t.come t.diff c.args.name.now c.says_unit-2.result (λ h. true≢false (sym ((c.says_unit.ensures t.gone t.left).1 h) ∙ c.if-says_unit.false)) (c.says_unit-2.ensures t.come t.new)
