use Rattle.fab_reach_base.proofs.Adding.{before_next, before_last}
use Rattle.fab_reach_books.specs.Inner.Sets.{HasPortIn}
use Rattle.fab_reach_pairs.specs.Owning.{NamesPort}
use Rattle.fab_reach_pairs.proofs.ports.add_all_named.Goals as goal

pub loop-row-preserved : goal.loop-row-preserved
loop-row-preserved g c =
    before_next NamesPort c.args.rows.now c.loop-row.row-index c.row-item.result (HasPortIn c.args.ports.now) (HasPortIn c.loop-row.ports) (HasPortIn c.add_named.new.ports) c.loop-row-test.true c.row-item.is c.loop-row.invariant c.in_ok-add_named.ensures

pub returns : goal.returns
returns g c = before_last NamesPort c.args.rows.now c.loop-row.row-index (HasPortIn c.args.ports.now) (HasPortIn c.loop-row.ports) c.loop-row-test.false c.loop-row.invariant
