use Rattle.std.proofs.Common.{◌≡◌, List, false, map}
use Rattle.sqlite.specs.Given.{HasGiven}
use Rattle.sqlite.specs.Held.{state}
use Rattle.sqlite.specs.Order.{Row}
use Rattle.sqlite.specs.State.{HasCleanDisk, IsUnchanged, Survives}
use Rattle.sqlite.specs.Values.{bound}
use Rattle.fab_store_sql.specs.Trees.{show_of}
use Rattle.fab_store_sql.proofs.read.stream.Given as goal

-- the lines so far are those of the rows that were given, and nothing is changed
abbrev pub invariant-rows : goal.invariant-rows
invariant-rows g l =
    let old = state g.S.Store l.fn.conn in
    let now = state g.S.Store l.rows.conn.now in
    record {
      reference : l.rows.conn.ghost_name ≡ l.initial.rows.conn.ghost_name;
      survives : Survives old now (λ _. ⊥);
      outside : l.fn.conn.in_transaction ≡ false → l.rows.conn.now.in_transaction ≡ false;
      given : HasCleanDisk now → (shown : List Row) × HasGiven g.S.Store l.text (bound l.params) l.rows.conn.now shown × IsUnchanged old now × (map g.L.Line.row l.lines.items ≡ map (show_of g.L.Line.place) shown);
    }
