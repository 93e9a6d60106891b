use Rattle.std.proofs.Common.{IsTrue, inl, inr}
use Rattle.sqlite.specs.Held.{state}
use Rattle.fab_store_sql.specs.States.{IsReady}
use Rattle.fab_store_sql.specs.Trees.{tables_of}
use Rattle.fab_store.proofs.Left.{left_after}
use Rattle.fab_store_tables.specs.Tables.{Tables, CanChange, AreChanged}
use Rattle.fab_store.proofs.store.SqlStoreStore.commit.Goals as goal

pub returns-in-Ok-clause-stop : goal.returns-in-Ok-clause-stop
returns-in-Ok-clause-stop g c clean ready can left may =
    let old = state g.S.Store c.args.self.now.conn in
    let new = state g.S.Store c.apply.new.conn in
    let before = tables_of old.now.trees in
    let Made = λ (t : Tables). IsReady old → (IsTrue old.is_open → CanChange c.args.changes.now before) → IsTrue old.is_open × AreChanged c.args.changes.now before t in
    elim (left_after old new Made c.apply.ensures.crash clean left may) [ inl same ↦ inl same | inr made ↦ inr (made ready can) ]

pub returns-in-Err-clause-stop : goal.returns-in-Err-clause-stop
returns-in-Err-clause-stop g c clean ready can left may =
    let old = state g.S.Store c.args.self.now.conn in
    let new = state g.S.Store c.apply.new.conn in
    let before = tables_of old.now.trees in
    let Made = λ (t : Tables). IsReady old → (IsTrue old.is_open → CanChange c.args.changes.now before) → IsTrue old.is_open × AreChanged c.args.changes.now before t in
    elim (left_after old new Made c.apply.ensures.crash clean left may) [ inl same ↦ inl same | inr made ↦ inr (made ready can) ]
