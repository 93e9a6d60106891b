use Rattle.std.proofs.Common.{◌≡◌, sym, subst, arith, rules}
use Rattle.std.proofs.lemmas.Result.{on_ok_weaker}
use Rattle.sqlite.specs.Tree.{Trees}
use Rattle.sqlite.specs.Effect.{Database}
use Rattle.sqlite.specs.State.{HasCleanDisk, Survives}
use Rattle.sqlite.specs.Held.{state}
use Rattle.sqlite.proofs.StateLemmas.{survives_then}
use Rattle.sqlite.proofs.Callers.{survives_begin}
use Rattle.fab_store_sql.specs.Trees.{tables_of}
use Rattle.fab_store_sql.specs.States.{IsServing}
use Rattle.fab_store_sql.specs.NewDesk.{HasMade, HaveJust, IsBlank}
use Rattle.fab_store_sql.proofs.Commits.{settled_commit}
use Rattle.fab_store_sql.proofs.Makings.{made_begin}
use Rattle.fab_store_sql.proofs.making.start.Goals as goal

pub returns-clause-done : goal.returns-clause-done
returns-clause-done g c clean blank =
    let old = c.args.conn.now in
    let last = c.fill.new.tx.conn.now in
    let end = c.commit.new.self.0 in
    let lines = c.args.lines.now in
    let same : end ≡ c.conn-2-1.given.0 = search rules in
    let late : HasCleanDisk (state g.S.Store end) = subst (λ h. HasCleanDisk (state g.S.Store h)) (sym same) clean in
    let held : HasCleanDisk (state g.S.Store last) = omega (arith, c.commit.ensures.survives.clean) in
    let made = subst (λ h. HasMade 0 (state g.S.Store h)) (sym c.transaction-tx.ensures.begun) (made_begin g.S.Store old blank) in
    on_ok_weaker c.commit.result (λ ok. subst (λ h. IsServing (state g.S.Store h) × HaveJust lines (tables_of (state g.S.Store h).now.trees)) same (
      settled_commit (state g.S.Store last) (state g.S.Store end) (c.in_ok-fill.ensures.inside held made) ok.1,
      subst (λ (d : Database). HaveJust lines (tables_of d.trees)) (sym ok.1.now_is) (c.in_ok-fill.ensures.done held made),
    )) (c.commit.ensures.ok late)

pub returns-clause-crash : goal.returns-clause-crash
returns-clause-crash g c =
    let old = c.args.conn.now in
    let last = c.fill.new.tx.conn.now in
    let end = c.commit.new.self.0 in
    let lines = c.args.lines.now in
    let begun = c.transaction-tx.ensures.begun in
    let same : end ≡ c.conn-2-1.given.0 = search rules in
    let P = λ (trees : Trees). IsBlank (state g.S.Store old) → HaveJust lines (tables_of trees) in
    let made = λ (blank : IsBlank (state g.S.Store old)). subst (λ h. HasMade 0 (state g.S.Store h)) (sym begun) (made_begin g.S.Store old blank) in
    let whole = survives_then (state g.S.Store old) (state g.S.Store last) (state g.S.Store end) _ _ P (λ _ db none. absurd none)
    (λ late db is blank. subst (λ t. HaveJust lines (tables_of t)) (sym is) (c.in_ok-fill.ensures.done (omega (arith, c.commit.ensures.survives.clean)) (made blank)))
    (survives_begin g.S.Store old (state g.S.Store last) _ (rw begun at c.in_ok-fill.ensures.survives)) c.commit.ensures.survives in
    subst (λ h. Survives (state g.S.Store old) (state g.S.Store h) P) same whole
