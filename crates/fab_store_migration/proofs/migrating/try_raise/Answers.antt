use Rattle.std.proofs.Common.{◌≡◌, List, MatchOption, ℕ, inr, subst, arith}
use Rattle.sqlite.specs.State.{HasCleanDisk}
use Rattle.sqlite.specs.Held.{state}
use Rattle.sqlite.proofs.InsideLemmas.{keeps_then}
use Rattle.sqlite.proofs.StateLemmas.{survives_then}
use Rattle.fab_store_columns.specs.MetaLines.{MetaColumns}
use Rattle.fab_store_tables.specs.Versions.{TellSchema}
use Rattle.fab_store_sql.specs.Trees.{tables_of}
use Rattle.fab_store_migration.specs.Migrations.{IsShaped, old_schema}
use Rattle.fab_store_migration.proofs.Begun.{before, seen_old, raised_from}
use Rattle.fab_store_migration.proofs.Seen.{told_there, told_one, refused_there}
use Rattle.fab_store_migration.proofs.migrating.try_raise.Goals as goal

pub returns-in-Err-judged-clause-fault : goal.returns-in-Err-judged-clause-fault
returns-in-Err-judged-clause-fault g c clean known =
    let tables = tables_of (state g.S.Store c.args.tx.now.conn.now).now.trees in
    let lines = c.in-Ok.lines.items in
    let told = subst (λ (ls : List MetaColumns). MatchOption c.schema_told.result ((n : ℕ) → ¬ TellSchema ls n) (TellSchema ls)) c.as_slice.ensures.value c.schema_told.ensures in
    refused_there tables lines c.schema_told.result c.in-Err-judged.fault (c.in-Ok.ensures.lines clean known) told c.in-Err-judged.ensures.refused

pub returns-in-Ok-raise-clause-done : goal.returns-in-Ok-raise-clause-done
returns-in-Ok-raise-clause-done g c clean inside shaped = λ _.
    let old = state g.S.Store c.args.tx.now.conn.now in
    let mid = state g.S.Store c.settings_in.new.tx.conn.now in
    let new = state g.S.Store c.raise.new.tx.conn.now in
    let early : HasCleanDisk mid = omega (arith, c.raise.ensures.survives.clean) in
    let older = c.in-Ok-judged.ensures.older c.if-not-older.false in
    let schema : old.now.schema ≡ old_schema = subst (IsShaped old.now.schema) older.0 shaped in
    let lines = c.in-Ok.lines.items in
    let told = subst (λ (ls : List MetaColumns). MatchOption c.schema_told.result ((n : ℕ) → ¬ TellSchema ls n) (TellSchema ls)) c.as_slice.ensures.value c.schema_told.ensures in
    let same = c.in-Ok.ensures.same early (inr schema) in
    let was = before old mid inside schema (c.in-Ok.ensures.keyed early (inr schema)) same in (
      seen_old old mid same schema (told_there (tables_of old.now.trees) lines 1 (c.in-Ok.ensures.lines early (inr schema)) (told_one lines c.schema_told.result 1 told older.1)),
      raised_from old mid same new (c.in-Ok-raise.ensures.done clean was),
    )

pub returns-in-Ok-raise-clause-kept : goal.returns-in-Ok-raise-clause-kept
returns-in-Ok-raise-clause-kept g c clean inside shaped =
    let old = state g.S.Store c.args.tx.now.conn.now in
    let mid = state g.S.Store c.settings_in.new.tx.conn.now in
    let new = state g.S.Store c.raise.new.tx.conn.now in
    let early : HasCleanDisk mid = omega (arith, c.raise.ensures.survives.clean) in
    let schema : old.now.schema ≡ old_schema = subst (IsShaped old.now.schema) (c.in-Ok-judged.ensures.older c.if-not-older.false).0 shaped in
    let was = before old mid inside schema (c.in-Ok.ensures.keyed early (inr schema)) (c.in-Ok.ensures.same early (inr schema)) in
    keeps_then old mid new (c.in-Ok.ensures.kept early inside) (c.raise.ensures.kept clean was)

pub returns-in-Ok-raise-clause-survives : goal.returns-in-Ok-raise-clause-survives
returns-in-Ok-raise-clause-survives g c =
    survives_then (state g.S.Store c.args.tx.now.conn.now) (state g.S.Store c.settings_in.new.tx.conn.now) (state g.S.Store c.raise.new.tx.conn.now) _ _ (λ _. ⊥) (λ _ db none. none) (λ _ db none. none) c.settings_in.ensures.survives c.raise.ensures.survives
