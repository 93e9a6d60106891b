use Rattle.std.proofs.Common.{◌≡◌, List, Contains, sym, subst}
use Rattle.fab_reach_base.specs.Adding.{Adds}
use Rattle.fab_reach_base.proofs.Adding.{before_next, before_last}
use Rattle.fab_reach_books.specs.declared.row.Row.{Row}
use Rattle.fab_reach_books.specs.declared.row.Row.TheVariants as row
use Rattle.fab_reach_books.proofs.GivenRows.{OfPort, all_ports}
use Rattle.fab_reach_books.proofs.RowsTold.{row_pushed}
use Rattle.fab_reach_books.proofs.told_rows.add_ports.Goals as goal

pub loop-port-preserved : goal.loop-port-preserved
loop-port-preserved g c =
    let x = c.port-item.result in
    before_next OfPort c.args.ports.now c.loop-port.port-index x (Contains c.args.rows.now.items) (Contains c.loop-port.rows.items) (Contains c.push.new.self.items) c.loop-port-test.true c.port-item.is c.loop-port.invariant
    (subst (λ (ys : List Row). Adds (λ r. r ≡ row.Port x) (Contains c.loop-port.rows.items) (Contains ys)) (sym c.in_ok-push.ensures.items) (row_pushed c.loop-port.rows.items (row.Port x)))

pub returns : goal.returns
returns g c = all_ports c.args.ports.now (Contains c.args.rows.now.items) (Contains c.loop-port.rows.items) (before_last OfPort c.args.ports.now c.loop-port.port-index (Contains c.args.rows.now.items) (Contains c.loop-port.rows.items) c.loop-port-test.false c.loop-port.invariant)
