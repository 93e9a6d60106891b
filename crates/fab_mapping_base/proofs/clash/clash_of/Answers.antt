use Rattle.fab_mapping_base.proofs.ClashSearch.{least_pair}
use Rattle.fab_mapping_base.proofs.clash.clash_of.Goals as goal

pub returns-in_default-unlike_unit : goal.returns-in_default-unlike_unit
returns-in_default-unlike_unit g c = λ n h. c.in_default-unlike_unit.ensures n.unit h.unit

pub returns : goal.returns
returns g c = least_pair c.args.host c.args.a.now c.args.b.now c.in-Some.target c.in-Some-unlike_unit.unit c.in-Some.ensures c.in-Some-unlike_unit.ensures
