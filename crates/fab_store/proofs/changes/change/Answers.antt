use Rattle.std.proofs.Common.{◌≡◌, sym, subst, arith, rules, IsTrue, OnErr}
use Rattle.std.proofs.lemmas.Result.{on_ok_weaker}
use Rattle.sqlite.specs.Tree.{Trees}
use Rattle.sqlite.specs.Effect.{Database}
use Rattle.sqlite.specs.State.{HasCleanDisk, Survives}
use Rattle.sqlite.specs.Held.{state}
use Rattle.sqlite.proofs.StateLemmas.{survives_then}
use Rattle.sqlite.proofs.Callers.{survives_begin}
use Rattle.fab_store_tables.specs.Tables.{CanChange, AreChanged}
use Rattle.fab_store_sql.specs.Trees.{tables_of}
use Rattle.fab_store_sql.specs.States.{IsServing, IsInside}
use Rattle.fab_store_sql.proofs.Commits.{settled_commit, inside_begin, kept_begin, failed_commit}
use Rattle.fab_store.proofs.changes.change.Goals as goal

pub returns-clause-done : goal.returns-clause-done
returns-clause-done g c clean serves can =
    let old = c.args.conn.now in
    let last = c.change_rows.new.tx.conn.now in
    let end = c.commit.new.self.0 in
    let begun = c.transaction-tx.ensures.begun in
    let changes = c.args.changes.now in
    let before = tables_of (state g.S.Store old).now.trees in
    let same : end ≡ c.conn-2-1.given.0 = search rules in
    let late : HasCleanDisk (state g.S.Store end) = subst (λ h. HasCleanDisk (state g.S.Store h)) (sym same) clean in
    let held : HasCleanDisk (state g.S.Store last) = omega (arith, c.commit.ensures.survives.clean) in
    let inside = subst (λ h. IsInside (state g.S.Store h)) (sym begun) (inside_begin g.S.Store old serves) in
    let ran = c.in_ok-change_rows.ensures.done held inside (rw begun can) in
    on_ok_weaker c.commit.result (λ ok. subst (λ h. IsServing (state g.S.Store h) × AreChanged changes before (tables_of (state g.S.Store h).now.trees)) same (
      settled_commit (state g.S.Store last) (state g.S.Store end) ran.inside ok.1,
      subst (λ (d : Database). AreChanged changes before (tables_of d.trees)) (sym ok.1.now_is) (rw begun at ran.change),
    )) (c.commit.ensures.ok late)

pub returns-clause-failed : goal.returns-clause-failed
returns-clause-failed g c clean serves =
    let old = c.args.conn.now in
    let last = c.change_rows.new.tx.conn.now in
    let end = c.commit.new.self.0 in
    let begun = c.transaction-tx.ensures.begun in
    let same : end ≡ c.conn-2-1.given.0 = search rules in
    let late : HasCleanDisk (state g.S.Store end) = subst (λ h. HasCleanDisk (state g.S.Store h)) (sym same) clean in
    let held : HasCleanDisk (state g.S.Store last) = omega (arith, c.commit.ensures.survives.clean) in
    let inside = subst (λ h. IsInside (state g.S.Store h)) (sym begun) (inside_begin g.S.Store old serves) in
    let kept = kept_begin g.S.Store old (state g.S.Store last) (rw begun at (c.in_ok-change_rows.ensures.kept held inside)) in
    subst (λ h. OnErr c.commit.result (IsTrue (state g.S.Store h).is_open → IsServing (state g.S.Store h) × ((state g.S.Store h).now ≡ (state g.S.Store old).now))) same
    (failed_commit c.commit.result (state g.S.Store old) (state g.S.Store last) (state g.S.Store end) serves (c.in_ok-change_rows.ensures.inside held inside) kept (c.commit.ensures.err late))

pub returns-clause-crash : goal.returns-clause-crash
returns-clause-crash g c =
    let old = c.args.conn.now in
    let last = c.change_rows.new.tx.conn.now in
    let end = c.commit.new.self.0 in
    let begun = c.transaction-tx.ensures.begun in
    let changes = c.args.changes.now in
    let before = tables_of (state g.S.Store old).now.trees in
    let same : end ≡ c.conn-2-1.given.0 = search rules in
    let P = λ (trees : Trees). IsServing (state g.S.Store old) → CanChange changes before → AreChanged changes before (tables_of trees) in
    let ran = λ (held : HasCleanDisk (state g.S.Store last)) (serves : IsServing (state g.S.Store old)) (can : CanChange changes before).
    let inside = subst (λ h. IsInside (state g.S.Store h)) (sym begun) (inside_begin g.S.Store old serves) in
    let all : AreChanged changes before (tables_of (state g.S.Store last).now.trees) = rw begun at (c.in_ok-change_rows.ensures.done held inside (rw begun can)).change in all in
    let whole = survives_then (state g.S.Store old) (state g.S.Store last) (state g.S.Store end) _ _ P (λ _ db none. absurd none)
    (λ late db is serves can. subst (λ t. AreChanged changes before (tables_of t)) (sym is) (ran (omega (arith, c.commit.ensures.survives.clean)) serves can))
    (survives_begin g.S.Store old (state g.S.Store last) _ (rw begun at c.in_ok-change_rows.ensures.survives)) c.commit.ensures.survives in
    subst (λ h. Survives (state g.S.Store old) (state g.S.Store h) P) same whole
