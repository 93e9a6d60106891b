use Rattle.std.proofs.Common.{arith, subst, List}
use Rattle.std.proofs.lemmas.Result.{on_ok_weaker}
use Rattle.sqlite.specs.State.{HasCleanDisk}
use Rattle.sqlite.specs.Held.{state}
use Rattle.sqlite.proofs.InsideLemmas.{keeps_then}
use Rattle.sqlite.proofs.StateLemmas.{survives_then}
use Rattle.fab_store_tables.specs.Tables.{IsAmong}
use Rattle.fab_store_tables.specs.declared.stored_line.TableLine.{TableLine}
use Rattle.fab_store_sql.specs.Trees.{tables_of}
use Rattle.fab_store_sql.specs.States.{HasKeyAmong, Loses, Gains, Walks}
use Rattle.fab_store_sql.proofs.Walks.{changed}
use Rattle.fab_store_sql.proofs.changes.change_rows.Goals as goal

pub returns-clause-done : goal.returns-clause-done
returns-clause-done g c clean inside can =
    let old = state g.S.Store c.args.tx.now.conn.now in
    let mid = state g.S.Store c.remove_all.new.tx.conn.now in
    let new = state g.S.Store c.add_all.new.tx.conn.now in
    let changes = c.args.changes.now in
    let early : HasCleanDisk mid = omega (arith, c.add_all.ensures.survives.clean) in
    let gone = subst (λ (ls : List (TableLine _)). Walks (Loses (HasKeyAmong ls)) old mid) c.as_slice.ensures.value (c.in_ok-remove_all.ensures.done early inside) in
    on_ok_weaker c.add_all.result (λ added.
    let put = subst (λ (ls : List (TableLine _)). Walks (Gains (IsAmong ls)) mid new) c.as_slice-2.ensures.value added in
    record { change = changed changes.removed.items changes.added.items (tables_of old.now.trees) (tables_of mid.now.trees) (tables_of new.now.trees) can.keyed can.there gone.change put.change; inside = put.inside })
    (c.add_all.ensures.done clean gone.inside)

pub returns-clause-kept : goal.returns-clause-kept
returns-clause-kept g c clean inside =
    let early : HasCleanDisk (state g.S.Store c.remove_all.new.tx.conn.now) = omega (arith, c.add_all.ensures.survives.clean) in
    keeps_then (state g.S.Store c.args.tx.now.conn.now) (state g.S.Store c.remove_all.new.tx.conn.now) (state g.S.Store c.add_all.new.tx.conn.now)
    (c.in_ok-remove_all.ensures.kept early inside) (c.add_all.ensures.kept clean (c.in_ok-remove_all.ensures.done early inside).inside)

pub returns-clause-survives : goal.returns-clause-survives
returns-clause-survives g c =
    survives_then (state g.S.Store c.args.tx.now.conn.now) (state g.S.Store c.remove_all.new.tx.conn.now) (state g.S.Store c.add_all.new.tx.conn.now) _ _ (λ _. ⊥) (λ _ db none. none) (λ _ db none. none)
    c.in_ok-remove_all.ensures.survives c.add_all.ensures.survives

pub returns-clause-inside : goal.returns-clause-inside
returns-clause-inside g c clean inside =
    let early : HasCleanDisk (state g.S.Store c.remove_all.new.tx.conn.now) = omega (arith, c.add_all.ensures.survives.clean) in
    on_ok_weaker c.add_all.result (λ added. added.inside) (c.add_all.ensures.done clean (c.in_ok-remove_all.ensures.done early inside).inside)
