-- A transaction that has only read the settings.
use Rattle.std.proofs.Common.{◌≡◌, IsTrue, sym, ap, subst, ◌∙◌}
use Rattle.sqlite.specs.Effect.{Database}
use Rattle.sqlite.specs.State.{State, IsUnchanged}
use Rattle.fab_store_sql.specs.Trees.{tables_of}
use Rattle.fab_store_tables.specs.Versions.{TellsVersion, IsMigrated}
use Rattle.fab_store_migration.specs.Migrations.{IsBefore, IsRaised, IsSeenOld, HasKeyedSettings, old_schema}

-- the settings were read, and showed the schema before
pub before : (old mid : State) → IsTrue old.in_transaction → old.now.schema ≡ old_schema → HasKeyedSettings old.now → IsUnchanged old mid → IsBefore mid
before old mid inside schema keyed same = record {
  inside = same.0.mode ∙ inside;
  schema = ap (λ (d : Database). d.schema) same.0.now_is ∙ schema;
  keyed = subst HasKeyedSettings (sym same.0.now_is) keyed;
}

-- a transaction that only showed something before
module _ (old mid : State) (same : IsUnchanged old mid) where
  pub seen_old : old.now.schema ≡ old_schema → TellsVersion (tables_of old.now.trees) 1 → IsSeenOld old
  seen_old schema version = record { is_open = same.0.was_open; schema = schema; version = version }

  pub raised_from : (new : State) → IsRaised mid new → IsRaised old new
  raised_from new h = record { rising = h.rising; migrated = subst (λ (d : Database). IsMigrated (tables_of d.trees) (tables_of new.now.trees)) same.0.now_is h.migrated }
