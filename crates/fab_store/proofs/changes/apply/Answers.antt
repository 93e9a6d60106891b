use Rattle.std.proofs.Common.{arith, IsTrue}
use Rattle.std.proofs.lemmas.Result.{on_ok_weaker}
use Rattle.sqlite.specs.Tree.{Trees}
use Rattle.sqlite.specs.State.{HasCleanDisk}
use Rattle.sqlite.specs.Held.{state}
use Rattle.sqlite.proofs.StateLemmas.{survives_then}
use Rattle.fab_store_tables.specs.Tables.{CanChange, AreChanged}
use Rattle.fab_store_sql.specs.Trees.{tables_of}
use Rattle.fab_store_sql.specs.States.{IsReady}
use Rattle.fab_store_sql.proofs.Commits.{serving, can_still, changed_from}
use Rattle.fab_store.proofs.changes.apply.Goals as goal

pub returns-clause-done : goal.returns-clause-done
returns-clause-done g c clean ready can =
    let old = state g.S.Store c.args.conn.now in
    let mid = state g.S.Store c.check_open.new.conn in
    let new = state g.S.Store c.change.new.conn in
    let changes = c.args.changes.now in
    let early : HasCleanDisk mid = omega (arith, c.change.ensures.crash.clean) in
    let same = c.in_ok-check_open.ensures.same early in
    let serves = serving old mid ready same (c.in_ok-check_open.ensures.live same.0.is_open).0 in
    on_ok_weaker c.change.result (λ done. (same.0.was_open, done.0.is_open, changed_from changes old mid new.now.trees same.0.now_is done.1))
    (c.change.ensures.done clean serves (can_still changes old mid same.0.now_is (can same.0.was_open)))

pub returns-clause-crash : goal.returns-clause-crash
returns-clause-crash g c =
    let old = state g.S.Store c.args.conn.now in
    let mid = state g.S.Store c.check_open.new.conn in
    let new = state g.S.Store c.change.new.conn in
    let changes = c.args.changes.now in
    let P = λ (trees : Trees). IsReady old → (IsTrue old.is_open → CanChange changes (tables_of old.now.trees)) → IsTrue old.is_open × AreChanged changes (tables_of old.now.trees) (tables_of trees) in
    survives_then old mid new _ _ P (λ _ db none. absurd none)
    (λ clean db leaves ready can.
    let early : HasCleanDisk mid = omega (arith, c.change.ensures.crash.clean) in
    let same = c.in_ok-check_open.ensures.same early in
    let serves = serving old mid ready same (c.in_ok-check_open.ensures.live same.0.is_open).0 in
    (same.0.was_open, changed_from changes old mid db same.0.now_is (leaves serves (can_still changes old mid same.0.now_is (can same.0.was_open)))))
    c.in_ok-check_open.ensures.survives c.change.ensures.crash
