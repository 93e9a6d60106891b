use Rattle.std.proofs.Common.{◌≡◌, ℕ, List, MatchOption, sym, subst, inr, ◌∙◌, arith, rules}
use Rattle.sqlite.specs.State.{HasCleanDisk}
use Rattle.sqlite.specs.Held.{state}
use Rattle.fab_store_columns.specs.MetaLines.{MetaColumns}
use Rattle.fab_store_tables.specs.Versions.{TellSchema, TellsVersion}
use Rattle.fab_store_sql.specs.Trees.{tables_of}
use Rattle.fab_store_migration.specs.Migrations.{IsKnown}
use Rattle.fab_store_migration.proofs.Seen.{same_some, told_one, told_there}
use Rattle.fab_store_migration.proofs.migrating.has_old_schema.Goals as goal

pub returns-in-Ok-clause-told : goal.returns-in-Ok-clause-told
returns-in-Ok-clause-told g c clean is =
    let first = c.transaction-tx.result.conn.now in
    let mid = c.settings_in.new.tx.conn.now in
    let end = c.drop-tx.new.self.0 in
    let begun = c.transaction-tx.ensures.begun in
    let same : end ≡ c.conn-1.given.0 = search rules in
    let late : HasCleanDisk (state g.S.Store end) = subst (λ h. HasCleanDisk (state g.S.Store h)) (sym same) clean in
    let early : HasCleanDisk (state g.S.Store mid) = omega (arith, c.drop-tx.ensures.survives.clean) in
    let known : IsKnown (state g.S.Store first).now.schema = subst (λ h. IsKnown (state g.S.Store h).now.schema) (sym begun) (inr (c.has_old_tables.ensures c.if-not-has_old_tables.false)) in
    let told = subst (λ (ls : List MetaColumns). MatchOption c.schema_told.result ((n : ℕ) → ¬ TellSchema ls n) (TellSchema ls)) c.as_slice.ensures.value c.schema_told.ensures in
    let one = told_one c.in-Ok.lines.items c.schema_told.result 1 told (same_some c.schema_told.result 1 (sym c.eq.ensures ∙ is)) in
    subst (λ h. TellsVersion (tables_of (state g.S.Store h).now.trees) 1) begun (told_there (tables_of (state g.S.Store first).now.trees) c.in-Ok.lines.items 1 (c.in-Ok.ensures.lines early known) one)
