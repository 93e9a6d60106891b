use Rattle.std.proofs.Common.{◌≡◌, take}
use Rattle.sqlite.specs.State.{HasCleanDisk, KeepsCommit, Survives}
use Rattle.sqlite.specs.Held.{state}
use Rattle.fab_store_tables.specs.Tables.{IsAmong}
use Rattle.fab_store_sql.specs.States.{IsInside, Gains, Walks}
use Rattle.fab_store_sql.proofs.changes.add_all.Given as goal

abbrev pub invariant-loop-line : goal.invariant-loop-line
invariant-loop-line g l =
    let old = state g.S.Store l.fn.tx.conn.now in
    let now = state g.S.Store l.tx.conn.now in
    record {
      same_reference : l.tx.conn.ghost_name ≡ l.fn.tx.conn.ghost_name;
      survives : Survives old now (λ _. ⊥);
      kept : HasCleanDisk now → IsInside old → KeepsCommit old now;
      walked : HasCleanDisk now → IsInside old → Walks (Gains (IsAmong (take l.line-index l.lines))) old now;
    }
