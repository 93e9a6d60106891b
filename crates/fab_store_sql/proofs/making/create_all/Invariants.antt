use Rattle.std.proofs.Common.{◌≡◌, ◌<◌}
use Rattle.sqlite.specs.Effect.{IsDatabase}
use Rattle.sqlite.specs.State.{HasCleanDisk, KeepsCommit, Survives}
use Rattle.sqlite.specs.Held.{state}
use Rattle.fab_store_sql.specs.NewDesk.{HasMade}
use Rattle.fab_store_sql.proofs.making.create_all.Given as goal

abbrev pub invariant-loop-table : goal.invariant-loop-table
invariant-loop-table g l =
    let old = state g.S.Store l.fn.tx.conn.now in
    let now = state g.S.Store l.tx.conn.now in
    record {
      same_reference : l.tx.conn.ghost_name ≡ l.fn.tx.conn.ghost_name;
      survives : Survives old now (λ _. ⊥);
      kept : HasCleanDisk now → HasMade 0 old → KeepsCommit old now;
      made : HasCleanDisk now → HasMade 0 old → HasMade l.table-index now;
      sound : HasCleanDisk now → HasMade 0 old → 0 < l.table-index → IsDatabase now.now;
    }
