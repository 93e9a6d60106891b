use Rattle.fab_reach_base.proofs.Adding.{before_next, before_last}
use Rattle.fab_reach_moves.specs.Inner.Changing.{SaysPort}
use Rattle.fab_reach_books.specs.Inner.Sets.{HasPortIn}
use Rattle.fab_reach_moves.proofs.Changed.{ports_said}
use Rattle.fab_reach_moves.proofs.changes.add_all_said.Goals as goal

pub loop-row-preserved : goal.loop-row-preserved
loop-row-preserved g c =
    before_next (SaysPort) c.args.rows.now c.loop-row.row-index c.row-item.result (HasPortIn c.args.ports.now) (HasPortIn c.loop-row.ports) (HasPortIn c.add_said.new.ports) c.loop-row-test.true c.row-item.is c.loop-row.invariant
    (c.in_ok-add_said.ensures)

pub returns : goal.returns
returns g c = ports_said c.args.rows.now (HasPortIn c.args.ports.now) (HasPortIn c.loop-row.ports)
    (before_last (SaysPort) c.args.rows.now c.loop-row.row-index (HasPortIn c.args.ports.now) (HasPortIn c.loop-row.ports) c.loop-row-test.false c.loop-row.invariant)
