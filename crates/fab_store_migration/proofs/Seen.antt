-- What the settings of a database show, whatever its schema, and what reading them leaves.
use Rattle.std.proofs.Common.{◌≡◌, ◌⊎◌, ℕ, List, [], Option, None, Some, MatchOption, cond, true, IsTrue, refl, sym, ap, subst, ◌∙◌, inl, inr}
use Rattle.std.specs.Option.{option_eq}
use Rattle.std.proofs.Math.Dec.{eqb}
use Rattle.std.proofs.lemmas.Bool.{eqb-true}
use Rattle.sqlite_tied.specs.Compute.{everything}
use Rattle.sqlite.specs.Listing.{understood}
use Rattle.sqlite.specs.Order.{Row}
use Rattle.sqlite.specs.Clock.{timed}
use Rattle.sqlite.specs.declared.error.Error.{Error}
use Rattle.sqlite_schema.specs.declared.command.Returning.{Returning}
use Rattle.sqlite.specs.State.{State, Shown, ShowsRows, FailsToQuery, FailsToShow, IsTooLate, IsUnchanged, KeepsCommit}
use Rattle.sqlite.proofs.Callers.{IsPlain}
use Rattle.sqlite.proofs.InsideLemmas.{unchanged_keeps}
use Rattle.fab_store_columns.specs.MetaLines.{MetaColumns}
use Rattle.fab_store_load.specs.declared.fault.Table.TheVariants as table
use Rattle.fab_store_tables.specs.Columns.{meta_row}
use Rattle.fab_store_tables.specs.Tables.{Tables}
use Rattle.fab_store_tables.specs.Versions.{TellsSchema, TellSchema, TellsVersion}
use Rattle.fab_store_migration.specs.Judging.{IsRefused, MigratesNot}
use Rattle.fab_store_migration.specs.declared.judging.MigrationFault.{MigrationFault}
use Rattle.fab_store_migration.specs.declared.judging.MigrationFault.TheVariants.{NewerSchema, NoSchema, Store, Memory}
use Rattle.sqlite.specs.declared.types.Value.{Value}
use Rattle.sqlite.specs.declared.types.Value.TheVariants.{Text}
use Rattle.sqlite.specs.Order.{column}
use Rattle.fab_store_sql.specs.Reading.{AreShown, AreLinesOf, IsAny}
use Rattle.fab_store_sql.specs.Statements.{select_text}
use Rattle.fab_store_sql.specs.Schema.{desk_schema}
use Rattle.fab_store_sql.proofs.Commits.{not_run}
use Rattle.fab_store_sql.proofs.Meanings.{Selects, selects_is}
use Rattle.fab_store_sql.proofs.Showings.{rows_read, shown_same}
use Rattle.fab_store_migration.specs.Migrations.{old_schema, IsKnown}

-- what the text that shows the settings means in the schema before
old_selects : Selects old_schema table.Meta
unfolding understood everything
old_selects = (refl, (refl, refl), refl)

pub settings_shown : (old new : State) (rows : List Row) → IsKnown old.now.schema → Shown (select_text table.Meta) [] old new rows → AreShown table.Meta IsAny old.now.trees rows
settings_shown old new rows (inl present) shown = rows_read desk_schema table.Meta (selects_is table.Meta) old new rows present shown
settings_shown old new rows (inr before) shown = rows_read old_schema table.Meta old_selects old new rows before shown

pub settings_same : (old new : State) (rows : List Row) → IsKnown old.now.schema → Shown (select_text table.Meta) [] old new rows → IsUnchanged old new
settings_same old new rows (inl present) shown = shown_same (select_text table.Meta) [] old new rows (subst (λ s. IsPlain (understood s (select_text table.Meta))) (sym present) (selects_is table.Meta).1) shown
settings_same old new rows (inr before) shown = shown_same (select_text table.Meta) [] old new rows (subst (λ s. IsPlain (understood s (select_text table.Meta))) (sym before) old_selects.1) shown

-- ---- a query inside a transaction commits nothing, whatever its text means

module _ (text : List ℕ) (params : Row) (old new : State) where
  pub shown_keeps : (rows : List Row) → IsTrue old.in_transaction → Shown text params old new rows → KeepsCommit old new
  unfolding Shown
  shown_keeps rows inside h = by h.0.returning h.2
    where
      by : (o : Option Returning) → ShowsRows old new text h.0 (timed params h.0.formats h.1.now) rows o → KeepsCommit old new
      by None is = unchanged_keeps old new (inl is.3)
      by (Some what) is = let w = is.1 in record { was_open = λ _. w.shown.was_open; committed = λ _. w.shown.committed_is ∙ ap (λ b. cond b old.committed new.now) inside }

  pub failed_keeps : (e : Error) → FailsToQuery text params old new e ⊎ IsTooLate text params old new e → KeepsCommit old new
  unfolding FailsToQuery
  failed_keeps e (inl (inl refused)) = unchanged_keeps old new (not_run old new text params e refused)
  failed_keeps e (inl (inr h)) = by h.0.returning h.2
    where
      by : (o : Option Returning) → FailsToShow old new text h.0 (timed params h.0.formats h.1.now) e o → KeepsCommit old new
      by None is = unchanged_keeps old new (inl is.3)
      by (Some what) (inl refused) = unchanged_keeps old new (inl refused.1)
      by (Some what) (inr failed) = unchanged_keeps old new (inr failed.3)
  failed_keeps e (inr late) = unchanged_keeps old new (inl late.5)

-- ---- the schema that is told

-- a number that was compared with the one that is told
pub same_some : (o : Option ℕ) (n : ℕ) → option_eq eqb o (Some n) ≡ true → o ≡ Some n
same_some None n e = absurd cc
same_some (Some m) n e = ap Some (eqb-true m n e)

text_in : Value → List ℕ
text_in (Text t) = t
text_in _ = []

-- settings with the same columns are one
one_meta : (l m : MetaColumns) → meta_row l ≡ meta_row m → l ≡ m
unfolding text_in
one_meta l m e = let key : l.key ≡ m.key = ap (λ (r : Row). text_in (column r 0)) e in let value : l.value ≡ m.value = ap (λ (r : Row). text_in (column r 1)) e in λ i. record { key = key i; value = value i }

-- a line tells it where the tables do
pub told_there : (tables : Tables) (lines : List MetaColumns) (n : ℕ) → AreLinesOf meta_row IsAny (tables table.Meta) lines → TellSchema lines n → TellsVersion tables n
told_there tables lines n are (l, there, tells) = (l, ((are (meta_row l)).1 (l, there, refl)).0, tells)

-- and the tables do where a line does
line_there : (tables : Tables) (lines : List MetaColumns) (n : ℕ) → AreLinesOf meta_row IsAny (tables table.Meta) lines → TellsVersion tables n → TellSchema lines n
line_there tables lines n are (l, there, tells) =
    let found = (are (meta_row l)).0 (there, tt) in
    (found.0, found.1, subst (λ (m : MetaColumns). TellsSchema m n) (sym (one_meta found.0 l found.2)) tells)

pub told_one : (lines : List MetaColumns) (told : Option ℕ) (n : ℕ) → MatchOption told ((k : ℕ) → ¬ TellSchema lines k) (TellSchema lines) → told ≡ Some n → TellSchema lines n
told_one lines told n tells is = subst (λ o. MatchOption o ((k : ℕ) → ¬ TellSchema lines k) (TellSchema lines)) is tells

-- why tables are not brought to the present schema
pub refused_there : (tables : Tables) (lines : List MetaColumns) (told : Option ℕ) (fault : MigrationFault) → AreLinesOf meta_row IsAny (tables table.Meta) lines → MatchOption told ((n : ℕ) → ¬ TellSchema lines n) (TellSchema lines) → IsRefused told fault → MigratesNot tables fault
refused_there tables lines told (NewerSchema n) are tells why = (told_there tables lines n are (told_one lines told n tells why.0), why.1)
refused_there tables lines told NoSchema are tells (inl none) = inl (λ n there. subst (λ o. MatchOption o ((k : ℕ) → ¬ TellSchema lines k) (TellSchema lines)) none tells n (line_there tables lines n are there))
refused_there tables lines told NoSchema are tells (inr zero) = inr (told_there tables lines 0 are (told_one lines told 0 tells zero))
refused_there tables lines told Store are tells why = tt
refused_there tables lines told Memory are tells why = tt
