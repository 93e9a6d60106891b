-- What the statements do to the tables, inside a transaction.
use Rattle.std.proofs.Common.{◌≡◌, ◌≢◌, ◌+◌, ◌/◌, ◌++◌, ℕ, ℤ, codes, true, List, [], ◌∷◌, length, Some, None, Option, Ok, Err, Result, OnOk, IsTrue, refl, sym, ap, subst, ◌∙◌, inl, inr, arith}
use Rattle.std.specs.List.{AllByRecursion}
use Rattle.std.proofs.lemmas.Bool.{cases_eq, and_parts}
use Rattle.sqlite.specs.declared.types.Value.{Value}
use Rattle.sqlite.specs.declared.types.Value.TheVariants.{Null, Int, Text}
use Rattle.sqlite.specs.Order.{Row, column}
use Rattle.sqlite.specs.Term.{lit, col}
use Rattle.sqlite.specs.Table.{Table as SqlTable}
use Rattle.sqlite.specs.Source.TheVariants.{Values}
use Rattle.sqlite.specs.Command.TheVariants.{Insert, Delete}
use Rattle.sqlite.specs.Cast.{cast, cast_all}
use Rattle.sqlite.specs.Kind.TheVariants as kind
use Rattle.sqlite.specs.declared.error.Error.{Error}
use Rattle.sqlite.specs.Effect.{IsDatabase, value_rows}
use Rattle.sqlite.specs.Does.{Does, OnRows, AtPlace}
use Rattle.sqlite.specs.Listing.{understood}
use Rattle.sqlite.specs.State.{State, mode_of, Shows, ExecutesInside}
use Rattle.sqlite.proofs.Callers.{statement_of, runs_as}
use Rattle.sqlite_schema.specs.Rules.{Obeys, passes}
use Rattle.sqlite_schema.specs.declared.schema.Constraint.{Constraint}
use Rattle.sqlite_schema.specs.declared.schema.Constraint.TheVariants.{Datatype, NotNull}
use Rattle.sqlite_rules.specs.Lists.{Has}
use Rattle.sqlite_rules.proofs.ListLemmas.{all_has}
use Rattle.fab_store_load.specs.declared.fault.Table.{Table}
use Rattle.fab_store_load.specs.declared.fault.Table.TheVariants as table
use Rattle.fab_store_tables.specs.Columns.{text_or_null, number_or_null}
use Rattle.fab_store_tables.specs.Tables.{table_of, row_of, key_of}
use Rattle.fab_store_tables.specs.declared.stored_line.TableLine.{TableLine}
use Rattle.fab_store_tables.specs.declared.stored_line.TableLine.TheVariants as line
use Rattle.fab_store_sql.specs.Schema.{column_of, made_of, desk_schema, place_of}
use Rattle.fab_store_sql.specs.Statements.{insert_text, delete_text}
use Rattle.fab_store_sql.specs.Trees.{tree_of, width_of, key_width, cells_from, show_of}
use Rattle.fab_store_sql.specs.Rows.{IsKeyed, Adds, Removes}
use Rattle.fab_store_sql.specs.States.{IsDesk, IsInside, Alters}
use Rattle.fab_store_sql.proofs.Meanings.{params_from, keys_from, inserts_is, deletes_is}
use Rattle.fab_store_sql.proofs.Places.{same_table, placed, listed, free}
use Rattle.fab_store_sql.proofs.Queries.{table_query}
use Rattle.fab_store_sql.proofs.Cells.{cast_integer, cast_null, AreComparable, matched, matches, number_at}
use Rattle.fab_store_sql.proofs.Edits.{Changes, inserts, deletes}

module _ (t : Table) (Change : List Row → List Row → Type 0) (keeps : (o n : List Row) → Change o n → IsKeyed (show_of t) o → IsKeyed (show_of t) n) (old new : State) where
  alters : Changes Change desk_schema (tree_of t) old.now.trees new.now → Shows old new new.now old.committed true → IsDatabase new.now → IsDesk old.now → Alters Change t old new
  alters h shown sound was =
      let others = λ (other : Table) (apart : tree_of other ≢ tree_of t).
      all_has (λ (u : SqlTable). u.tree ≢ tree_of t → new.now.trees u.tree ≡ old.now.trees u.tree) desk_schema.tables (made_of other) h.others (listed other) apart in
      record {
        change = h.change;
        others = λ other apart. others other (λ e. apart (same_table other t e));
        inside = record {
          inside = shown.mode;
          desk = λ _. record {
            schema = h.same;
            keyed = λ other. elim (cases_eq (tree_of other) (tree_of t)) [
              | inl same ↦ subst (λ n. IsKeyed (show_of n) (new.now.trees (tree_of n))) (sym (same_table other t same)) (keeps _ _ h.change (was.keyed t))
              | inr apart ↦ subst (IsKeyed (show_of other)) (sym (others other apart)) (was.keyed other)
            ];
          };
          sound = λ _. sound;
        };
      }

-- a row of values that the columns of the table keep as they are
pub record Fits (t : Table) (row : Row) : Type 0 where
  pub rows : value_rows (row ++ []) (width_of t + 1) (length (lit Null ∷ params_from 0 (width_of t)) / (width_of t + 1)) (lit Null ∷ params_from 0 (width_of t)) ≡ (Null ∷ row) ∷ []
  pub kept : cast_all (made_of t).columns row ≡ row
  pub shown : (v : Value) → show_of t (v ∷ row) ≡ row

-- over the tables of the schema, whether rowids are keys or not
module _ (old new : State) (schema : IsTrue old.is_open → old.now.schema ≡ desk_schema) where
  -- what an INSERT changes
  pub puts : (t : Table) (row : Row) → Fits t row → (count : ℕ) → ExecutesInside 0 (insert_text t) row old new (Ok count) → Changes (Adds (show_of t) row) desk_schema (tree_of t) old.now.trees new.now × IsDatabase new.now
  puts t row fits count h =
      let is = schema h.1.was_open in
      let terms = lit Null ∷ params_from 0 (width_of t) in
      let command = Insert (place_of t) (Values terms (width_of t + 1)) in
      let w = runs_as (insert_text t) row old new desk_schema is command (inserts_is t).0 (inserts_is t).1 count h.0 in
      let text = statement_of (insert_text t) (understood desk_schema (insert_text t)) in
      let did = subst (λ s. Does old.step_limit (mode_of old) row (record old.now { schema = s }) text None command (Ok (w.tally, new.now))) is w.changed in
      let here = subst (λ o. AtPlace (λ table. OnRows (record { limit = old.step_limit; keys = (mode_of old).keys; schema = desk_schema; table = table; params = row }) (mode_of old) None command old.now.trees) o (Ok (w.tally, new.now))) (placed t) did in (
        inserts old.step_limit (mode_of old) desk_schema (made_of t).name (made_of t).columns (made_of t).primary (tree_of t) row (show_of t) (free t (mode_of old).keys) (place_of t) terms (width_of t + 1) (Null ∷ row) row old.now.trees w.tally new.now here
            fits.rows fits.kept fits.shown,
        w.sound,
      )

  -- what a DELETE changes, where the rowids of its table are keys
  pub takes : (t : Table) (key : Row) → length key ≡ key_width t → ((r : Row) → key_of t (show_of t r) ≡ cells_from r 1 (key_width t)) → ((r : Row) → IsTrue old.is_open → Has (old.now.trees (tree_of t)) r → AreComparable r 0 key)
      → (IsTrue old.is_open → IsKeyed (show_of t) (old.now.trees (tree_of t))) → (count : ℕ) → ExecutesInside 0 (delete_text t) key old new (Ok count)
      → Changes (Removes (show_of t) (λ c. key_of t c ≡ key)) desk_schema (tree_of t) old.now.trees new.now × IsDatabase new.now
  takes t key len shown can keyed count h =
      let is = schema h.1.was_open in
      let command = Delete (place_of t) (record { lets = []; body = table_query (tree_of t) (keys_from 0 (key_width t)) (col 1 0 ∷ []) [] [] }) in
      let w = runs_as (delete_text t) key old new desk_schema is command (deletes_is t).0 (deletes_is t).1 count h.0 in
      let text = statement_of (delete_text t) (understood desk_schema (delete_text t)) in
      let did = subst (λ s. Does old.step_limit (mode_of old) key (record old.now { schema = s }) text None command (Ok (w.tally, new.now))) is w.changed in
      let here = subst (λ o. AtPlace (λ table. OnRows (record { limit = old.step_limit; keys = (mode_of old).keys; schema = desk_schema; table = table; params = key }) (mode_of old) None command old.now.trees) o (Ok (w.tally, new.now))) (placed t) did in
      let Test = λ (c : Row). key_of t c ≡ key in
      let on = λ (i : ℕ). let e : 0 + i ≡ i = omega arith in ap (column key) e in (
        deletes old.step_limit (mode_of old) desk_schema (made_of t).name (made_of t).columns (made_of t).primary (tree_of t) key (show_of t) (free t (mode_of old).keys) (place_of t) (keys_from 0 (key_width t)) old.now.trees w.tally new.now Test
            (λ r there passes. shown r ∙ matched r key (key_width t) 0 key len on (can r h.1.was_open there) passes)
            (λ r there passes. matches r key (key_width t) 0 key len on (can r h.1.was_open there) (sym (shown r) ∙ passes))
            here (keyed h.1.was_open),
        w.sound,
      )

module _ (old new : State) (inside : IsInside old) where
  has_schema : IsTrue old.is_open → old.now.schema ≡ desk_schema
  has_schema is_open = (inside.desk is_open).schema

  pub adds : (t : Table) (row : Row) → Fits t row → (r : Result ℕ Error) → ExecutesInside 0 (insert_text t) row old new r → OnOk r (Alters (Adds (show_of t) row) t old new)
  adds t row fits (Err e) h = tt
  adds t row fits (Ok count) h = let p = puts old new has_schema t row fits count h in alters t (Adds (show_of t) row) (λ o n c. c.keyed) old new p.0 h.1 p.1 (inside.desk h.1.was_open)

  pub removes : (t : Table) (key : Row) → length key ≡ key_width t → ((r : Row) → key_of t (show_of t r) ≡ cells_from r 1 (key_width t)) → ((r : Row) → IsTrue old.is_open → Has (old.now.trees (tree_of t)) r → AreComparable r 0 key) → (r : Result ℕ Error)
      → ExecutesInside 0 (delete_text t) key old new r → OnOk r (Alters (Removes (show_of t) (λ c. key_of t c ≡ key)) t old new)
  removes t key len shown can (Err e) h = tt
  removes t key len shown can (Ok count) h =
      let p = takes old new has_schema t key len shown can (λ is_open. (inside.desk is_open).keyed t) count h in
      alters t (Removes (show_of t) (λ c. key_of t c ≡ key)) (λ o n c _. c.keyed) old new p.0 h.1 p.1 (inside.desk h.1.was_open)

-- ---- lines

null_text : (o : Option (List ℕ)) → cast kind.Text (text_or_null o) ≡ text_or_null o
null_text None = refl
null_text (Some text) = refl

null_number : (o : Option ℤ) → cast kind.Integer (number_or_null o) ≡ number_or_null o
null_number None = cast_null
null_number (Some n) = cast_integer n

pub fits : {A : Type 0} (l : TableLine A) → Fits (table_of l) (row_of l)
fits (line.Meta l) = record { rows = refl; kept = refl; shown = λ v. refl }
fits (line.Port l) = record {
  rows = refl;
  kept = ap (λ f. Text l.wwpn ∷ Text l.wwnn ∷ f ∷ cast kind.Integer (number_or_null l.domain) ∷ cast kind.Integer (number_or_null l.slot) ∷ cast kind.Text (text_or_null l.holder) ∷ []) (null_text l.fabric)
      ∙ ap (λ d. Text l.wwpn ∷ Text l.wwnn ∷ text_or_null l.fabric ∷ d ∷ cast kind.Integer (number_or_null l.slot) ∷ cast kind.Text (text_or_null l.holder) ∷ []) (null_number l.domain)
      ∙ ap (λ s. Text l.wwpn ∷ Text l.wwnn ∷ text_or_null l.fabric ∷ number_or_null l.domain ∷ s ∷ cast kind.Text (text_or_null l.holder) ∷ []) (null_number l.slot)
      ∙ ap (λ h. Text l.wwpn ∷ Text l.wwnn ∷ text_or_null l.fabric ∷ number_or_null l.domain ∷ number_or_null l.slot ∷ h ∷ []) (null_text l.holder);
  shown = λ v. refl;
}
fits (line.Holder l) = record { rows = refl; kept = refl; shown = λ v. refl }
fits (line.Volume l) = record { rows = refl; kept = ap (λ x. Text l.name ∷ Text l.array ∷ Text l.tenant ∷ x ∷ []) (cast_integer l.bytes); shown = λ v. refl }
fits (line.Zoning l) = record { rows = refl; kept = refl; shown = λ v. refl }
fits (line.Active l) = record { rows = refl; kept = refl; shown = λ v. refl }
fits (line.Group l) = record { rows = refl; kept = ap (λ x. Text l.kind ∷ Text l.name ∷ Text l.tenant ∷ Text l.array ∷ x ∷ []) (cast_integer l.exposed); shown = λ v. refl }
fits (line.Part l) = record { rows = refl; kept = refl; shown = λ v. refl }
fits (line.Plan l) = record { rows = refl; kept = ap (λ x. Text l.name ∷ Text l.author ∷ Text l.text ∷ Text l.state ∷ x ∷ []) (cast_integer l.position); shown = λ v. refl }
fits (line.Approval l) = record { rows = refl; kept = ap (λ x. Text l.plan ∷ Text l.caller ∷ x ∷ []) (cast_integer l.revision); shown = λ v. refl }
fits (line.Undo l) = record { rows = refl; kept = refl; shown = λ v. refl }
fits (line.Path l) = record { rows = refl; kept = ap (λ x. Text l.host ∷ Text l.fabric ∷ Text l.initiator ∷ Text l.target ∷ Text l.volume ∷ x ∷ []) (cast_integer l.lun); shown = λ v. refl }
fits (line.Address l) = record { rows = refl; kept = refl; shown = λ v. refl }

key_length : {A : Type 0} (l : TableLine A) → length (key_of (table_of l) (row_of l)) ≡ key_width (table_of l)
key_length (line.Meta l) = refl
key_length (line.Port l) = refl
key_length (line.Holder l) = refl
key_length (line.Volume l) = refl
key_length (line.Zoning l) = refl
key_length (line.Active l) = refl
key_length (line.Group l) = refl
key_length (line.Part l) = refl
key_length (line.Plan l) = refl
key_length (line.Approval l) = refl
key_length (line.Undo l) = refl
key_length (line.Path l) = refl
key_length (line.Address l) = refl

key_shown : (t : Table) (r : Row) → key_of t (show_of t r) ≡ cells_from r 1 (key_width t)
key_shown table.Meta r = refl
key_shown table.Ports r = refl
key_shown table.Holders r = refl
key_shown table.Volumes r = refl
key_shown table.Zoning r = refl
key_shown table.Active r = refl
key_shown table.Groups r = refl
key_shown table.GroupParts r = refl
key_shown table.Plans r = refl
key_shown table.Approvals r = refl
key_shown table.Undo r = refl
key_shown table.Paths r = refl
key_shown table.Addresses r = refl

module _ (old new : State) (inside : IsInside old) where
  -- the unit number of a path is a number
  unit_number : IsTrue old.is_open → (r : Row) → Has (old.now.trees (tree_of table.Paths)) r → (m : ℤ) × (column r 6 ≡ Int m)
  unit_number is_open r there =
      let schema = (inside.desk is_open).schema in
      let obeys : Obeys desk_schema old.now.trees = subst (λ s. Obeys s old.now.trees) schema (inside.sound is_open).obeys in
      let row_passes = λ (rule : Constraint). all_has (λ (row : Row). passes rule desk_schema old.now.trees (made_of table.Paths) row ≡ true) (old.now.trees (tree_of table.Paths)) r
      (all_has (λ (u : SqlTable). AllByRecursion (λ row. passes rule desk_schema old.now.trees u row ≡ true) (old.now.trees u.tree)) desk_schema.tables (made_of table.Paths) (obeys.rules rule) (listed table.Paths)) there in
      number_at (made_of table.Paths).columns 5 r (column_of (codes "lun") kind.Integer true) (and_parts _ _ (row_passes Datatype)).0 (row_passes NotNull) refl refl (λ v. refl)

  comparable : {A : Type 0} (l : TableLine A) (r : Row) → IsTrue old.is_open → Has (old.now.trees (tree_of (table_of l))) r → AreComparable r 0 (key_of (table_of l) (row_of l))
  comparable (line.Meta l) r is_open there = (tt, tt)
  comparable (line.Port l) r is_open there = (tt, tt)
  comparable (line.Holder l) r is_open there = (tt, tt)
  comparable (line.Volume l) r is_open there = (tt, tt)
  comparable (line.Zoning l) r is_open there = (tt, (tt, (tt, (tt, tt))))
  comparable (line.Active l) r is_open there = (tt, (tt, (tt, tt)))
  comparable (line.Group l) r is_open there = (tt, (tt, tt))
  comparable (line.Part l) r is_open there = (tt, (tt, (tt, (tt, tt))))
  comparable (line.Plan l) r is_open there = (tt, tt)
  comparable (line.Approval l) r is_open there = (tt, (tt, tt))
  comparable (line.Undo l) r is_open there = (tt, (tt, (tt, tt)))
  comparable (line.Path l) r is_open there = (tt, (tt, (tt, (tt, (tt, (unit_number is_open r there, tt))))))
  comparable (line.Address l) r is_open there = (tt, tt)

  pub adds_line : {A : Type 0} (l : TableLine A) (r : Result ℕ Error) → ExecutesInside 0 (insert_text (table_of l)) (row_of l) old new r → OnOk r (Alters (Adds (show_of (table_of l)) (row_of l)) (table_of l) old new)
  adds_line l r ran = adds old new inside (table_of l) (row_of l) (fits l) r ran

  pub removes_line : {A : Type 0} (l : TableLine A) (r : Result ℕ Error) → ExecutesInside 0 (delete_text (table_of l)) (key_of (table_of l) (row_of l)) old new r
      → OnOk r (Alters (Removes (show_of (table_of l)) (λ c. key_of (table_of l) c ≡ key_of (table_of l) (row_of l))) (table_of l) old new)
  removes_line l r ran = removes old new inside (table_of l) (key_of (table_of l) (row_of l)) (key_length l) (key_shown (table_of l)) (λ x is_open there. comparable l x is_open there) r ran
