use Rattle.std.proofs.Common.{◌≡◌, ℕ}
use Rattle.fab_inventory.specs.declared.port.PortRow.{PortRow}
use Rattle.fab_looks_tries.specs.Inner.Gathered.{HasPort}
use Rattle.fab_looks_tries.proofs.Moves.{row_added}
use Rattle.fab_reach_base.proofs.Adding.{before_next}
use Rattle.fab_looks_tries.proofs.ports.add_listed.Goals as goal

pub loop-row-preserved : goal.loop-row-preserved
loop-row-preserved g c =
    before_next (λ (r : PortRow) (n : ℕ). r.name ≡ n) c.args.rows.now c.loop-row.row-index c.row-item.result (HasPort c.args.names.now) (HasPort c.loop-row.names) (HasPort c.insert.new.self) c.loop-row-test.true c.row-item.is c.loop-row.invariant
    (row_added c.row-item.result c.loop-row.names c.insert.new.self c.in_ok-insert.ensures.updates.0)
