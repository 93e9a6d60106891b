-- What the statements of a migration do to the tables.
use Rattle.std.proofs.Common.{◌≡◌, ◌≢◌, ◌⊎◌, ◌<◌, ℕ, List, map, Contains, Ok, IsTrue, codes, refl, sym, ap, subst, ◌∙◌, inl, inr, arith}
use Rattle.std.proofs.lemmas.Bool.{cases_lt}
use Rattle.sqlite.specs.Order.{Row}
use Rattle.sqlite.specs.State.{State, ExecutesInside}
use Rattle.sqlite.specs.Table.{Table as SqlTable}
use Rattle.sqlite_rules.proofs.ListLemmas.{all_has}
use Rattle.fab_store_columns.specs.MetaLines.{meta_line}
use Rattle.fab_store_load.specs.declared.fault.Table.{Table}
use Rattle.fab_store_load.specs.declared.fault.Table.TheVariants as table
use Rattle.fab_store_tables.specs.Tables.{key_of}
use Rattle.fab_store_tables.specs.Versions.{schema_key, schema_row}
use Rattle.fab_store_tables.specs.declared.stored_line.TableLine.TheVariants as line
use Rattle.fab_store_sql.specs.NewDesk.{IsOneMore}
use Rattle.fab_store_sql.specs.Rows.{IsKeyed, Adds, Removes}
use Rattle.fab_store_sql.specs.Schema.{made_of, desk_schema, place_of}
use Rattle.fab_store_sql.specs.Statements.{insert_text, delete_text}
use Rattle.fab_store_sql.specs.Trees.{tree_of, show_of, tables_of}
use Rattle.fab_store_sql.proofs.Edits.{Changes}
use Rattle.fab_store_sql.proofs.Makings.{low_place}
use Rattle.fab_store_sql.proofs.Creates.{same_place}
use Rattle.fab_store_sql.proofs.Places.{listed, same_table}
use Rattle.fab_store_sql.proofs.Puts.{fits, puts, takes}
use Rattle.fab_store_sql.proofs.Walks.{held, holds}
use Rattle.fab_store_migration.specs.Migrations.{IsBefore, IsRising, IsRaised, ChangesSettings}

-- a change of the settings
module _ (Change : List Row → List Row → Type 0) (keeps : (o n : List Row) → Change o n → IsKeyed (show_of table.Meta) o → IsKeyed (show_of table.Meta) n) (old new : State) (was : IsRising old) where
  changes : Changes Change desk_schema (tree_of table.Meta) old.now.trees new.now → IsTrue new.in_transaction → ChangesSettings Change old new
  changes h inside = record {
    change = h.change;
    others = λ t apart. all_has (λ (u : SqlTable). u.tree ≢ tree_of table.Meta → new.now.trees u.tree ≡ old.now.trees u.tree) desk_schema.tables (made_of t) h.others (listed t) (λ e. apart (same_table t table.Meta e));
    rising = record { inside = inside; schema = h.same; keyed = keeps _ _ h.change was.keyed };
  }

pub forgets : (old new : State) (count : ℕ) → IsRising old → ExecutesInside 0 (delete_text table.Meta) schema_key old new (Ok count) → ChangesSettings (Removes (show_of table.Meta) (λ c. key_of table.Meta c ≡ schema_key)) old new
forgets old new count was h =
    let took = takes old new (λ _. was.schema) table.Meta schema_key refl (λ r. refl) (λ r is_open there. (tt, tt)) (λ _. was.keyed) count h in
    changes (Removes (show_of table.Meta) (λ c. key_of table.Meta c ≡ schema_key)) (λ o n c _. c.keyed) old new was took.0 h.1.mode

pub tells : (old new : State) (count : ℕ) → IsRising old → ExecutesInside 0 (insert_text table.Meta) schema_row old new (Ok count) → ChangesSettings (Adds (show_of table.Meta) schema_row) old new
tells old new count was h =
    let put = puts old new (λ _. was.schema) table.Meta schema_row (fits {A = Unit {0}} (line.Meta (meta_line (codes "schema") (codes "2")))) count h in
    changes (Adds (show_of table.Meta) schema_row) (λ o n c. c.keyed) old new was put.0 h.1.mode

-- the table of addresses is the last
before_addresses : (t : Table) → t ≢ table.Addresses → place_of t < place_of table.Addresses
before_addresses t apart = elim (cases_lt (place_of t) 12) [
  | inl below ↦ below
  | inr above ↦ absurd (apart (same_place t table.Addresses (omega (arith, above, low_place t))))
]

settings_apart : table.Meta ≢ table.Addresses
settings_apart e = let n : 0 ≡ 12 = ap place_of e in omega (arith, n)

pub begun : (old new : State) → IsBefore old → IsOneMore table.Addresses old new → IsRising new
begun old new was more = record {
  inside = more.first.inside;
  schema = more.first.schema;
  keyed = subst (IsKeyed (show_of table.Meta)) (sym (more.kept table.Meta (before_addresses table.Meta settings_apart))) was.keyed;
}

-- all three: the table is made, the setting is taken out, and the other is added
pub raised : (old made lost new : State) → IsOneMore table.Addresses old made → ChangesSettings (Removes (show_of table.Meta) (λ c. key_of table.Meta c ≡ schema_key)) made lost → ChangesSettings (Adds (show_of table.Meta) schema_row) lost new → IsRaised old new
raised old made lost new more gone put = record {
  rising = put.rising;
  migrated = record {
    kept = λ t other apart. ap (map (show_of t)) (put.others t other ∙ gone.others t other ∙ more.kept t (before_addresses t apart));
    no_address = ap (map (show_of table.Addresses)) (put.others table.Addresses (λ e. settings_apart (sym e)) ∙ gone.others table.Addresses (λ e. settings_apart (sym e)) ∙ more.none);
    settings = λ r. (λ there. forth r there, λ either. back r either);
  };
}
  where
    same : made.now.trees (tree_of table.Meta) ≡ old.now.trees (tree_of table.Meta)
    same = more.kept table.Meta (before_addresses table.Meta settings_apart)

    forth : (r : Row) → Contains (tables_of new.now.trees table.Meta) r → (Contains (tables_of old.now.trees table.Meta) r × (key_of table.Meta r ≢ schema_key)) ⊎ (r ≡ schema_row)
    forth r there = elim (put.change.from r (holds (show_of table.Meta) _ r there)) [
      | inl is ↦ inr is
      | inr was ↦ inl (subst (λ rows. Contains (map (show_of table.Meta) rows) r) same (held (show_of table.Meta) _ r (gone.change.from r was)), gone.change.gone r was)
    ]

    back : (r : Row) → (Contains (tables_of old.now.trees table.Meta) r × (key_of table.Meta r ≢ schema_key)) ⊎ (r ≡ schema_row) → Contains (tables_of new.now.trees table.Meta) r
    back r (inl kept) = held (show_of table.Meta) _ r (put.change.kept r (gone.change.kept r (holds (show_of table.Meta) _ r (subst (λ rows. Contains (map (show_of table.Meta) rows) r) (sym same) kept.0)) kept.1))
    back r (inr is) = subst (Contains (map (show_of table.Meta) (new.now.trees (tree_of table.Meta)))) (sym is) (held (show_of table.Meta) _ schema_row put.change.there)
