-- What an INSERT of one row and a DELETE do to a table.
use Rattle.std.proofs.Common.{◌≡◌, ◌≢◌, ℕ, ◌/◌, ◌^◌, ◌-◌, unwrap_or, slice_get, nat_le, Bool, true, false, cond, List, [], ◌∷◌, length, drop, None, Option, Ok, refl, sym, ap, subst, ◌∙◌}
use Rattle.std.specs.List.{AllByRecursion, list_all}
use Rattle.sqlite.specs.declared.types.Value.{Value}
use Rattle.sqlite.specs.declared.types.Value.TheVariants.{Null, Int}
use Rattle.sqlite.specs.Order.{Row}
use Rattle.sqlite.specs.Term.{Term, col, holds}
use Rattle.sqlite.specs.Program.{overlay}
use Rattle.sqlite.specs.Table.{Table}
use Rattle.sqlite.specs.Schema.{Schema}
use Rattle.sqlite.specs.Tree.{Trees, rowid}
use Rattle.sqlite.specs.Source.TheVariants.{Values}
use Rattle.sqlite.specs.Command.TheVariants.{Insert, Delete}
use Rattle.sqlite_schema.specs.declared.schema.Column.{Column}
use Rattle.sqlite_schema.specs.declared.schema.Keys.{Keys}
use Rattle.sqlite.specs.declared.run.Mode.{Mode}
use Rattle.sqlite_rules.specs.Lists.{Has}
use Rattle.sqlite_rules.specs.Calls.{ids_of}
use Rattle.sqlite_rules.specs.Action.{works}
use Rattle.sqlite.specs.Edit.{edit_of, taken_by, next_rowid, at_least, is_chosen, with_rowid, without_all, put_all}
use Rattle.sqlite.specs.Cast.{cast_all, cast_row}
use Rattle.sqlite.specs.Rowids.TheVariants.{Chosen, Given}
use Rattle.sqlite.specs.Effect.{Database, value_rows}
use Rattle.sqlite.specs.Rows.{Written, Task, stamped}
use Rattle.sqlite.specs.Does.{Tally, OnRows}
use Rattle.sqlite.proofs.Callers.{one_step}
use Rattle.fab_store_sql.specs.Schema.{strict_table}
use Rattle.fab_store_sql.specs.Rows.{IsKeyed, Adds, Removes}
use Rattle.fab_store_sql.proofs.RowEdits.{adds_one, removes_found}
use Rattle.fab_store_sql.proofs.Queries.{table_query, shows}
use Rattle.fab_store_sql.proofs.Creates.{went, same_value}

-- no foreign key acts on the table
abbrev pub IsFree : Schema → Keys → ℕ → Type 0
IsFree schema keys tree = (olds news : List Row) → works schema keys 0 tree olds news ≡ []

-- the table is changed so, and the others are as they were
pub record Changes (Change : List Row → List Row → Type 0) (schema : Schema) (tree : ℕ) (old : Trees) (new : Database) : Type 0 where
  pub change : Change (old tree) (new.trees tree)
  pub others : AllByRecursion (λ t. t.tree ≢ tree → new.trees t.tree ≡ old t.tree) schema.tables
  pub same : new.schema ≡ schema

first_of : (b : Bool) (v w : Value) (more : Row) → cond b (v ∷ more) (w ∷ more) ≡ cond b v w ∷ more
first_of true v w more = refl
first_of false v w more = refl

pub overlaid : (db : Trees) (tree : ℕ) → overlay db [] tree ≡ db tree
overlaid db tree = elim (nat_le (2 ^ 31) tree) as (λ b. unwrap_or (cond b (slice_get [] (tree - 2 ^ 31)) None) (db tree) ≡ db tree) [ true ↦ refl | false ↦ refl ]

module _ (limit : Option ℕ) (mode : Mode) (schema : Schema) (name : List ℕ) (columns : List Column) (key : List ℕ) (tree : ℕ) (params : Row) (show : Row → Row) (free : IsFree schema mode.keys tree) where
  abbrev table : Table
  table = strict_table tree name columns key

  abbrev task : Task
  task = record { limit = limit; keys = mode.keys; schema = schema; table = table; params = params }

  pub inserts : (at : ℕ) (terms : List Term) (width : ℕ) (source values : Row) (db : Trees) (tally : Tally) (now : Database) → OnRows task mode None (Insert at (Values terms width)) db (Ok (tally, now))
      → value_rows (stamped table params) width (length terms / width) terms ≡ source ∷ [] → cast_all columns (drop 1 source) ≡ values → ((v : Value) → show (v ∷ values) ≡ values) → Changes (Adds show values) schema tree db now
  inserts at terms width source values db tally now h one cast shows_new =
      let done = went h in
      let is = ap (λ (p : Tally × Database). p.1) (same_value (went (went done.2).2).2) in
      let given = went done.1 in
      let written = went (went given.2).2 in
      let counted = went written.2 in
      let trees : done.0.trees ≡ written.0 = ap (λ (it : Written). it.trees) (same_value counted.2) ∙ same_value counted.1 in
      let edit = edit_of db table [] Chosen 0 given.0 in
      let step = one_step schema mode.keys db written.0 edit (free (taken_by db edit) edit.news) written.1 in
      let new = with_rowid Chosen (db tree) (cast_row table source) in
      let news : edit.news ≡ new ∷ [] = ap (λ rows. (edit_of db table [] Chosen 0 rows).news) (given.1.1 ∙ one) in
      let adds = adds_one show new (db tree) (rw news at step.keyed) (rw news at step.fresh) in
      let rows : now.trees tree ≡ put_all (db tree) (new ∷ []) = ap (λ (d : Database). d.trees tree) is ∙ ap (λ (t : Trees). t tree) trees ∙ step.rows ∙ ap (put_all (db tree)) news in
      let row = cast_row table source in
      let chosen = is_chosen Chosen (rowid row) in
      let id = Int (at_least Chosen (next_rowid (db tree))) in
      let is_new : new ≡ cond chosen id (rowid row) ∷ values = first_of chosen id (rowid row) (cast_all columns (drop 1 source)) ∙ ap (λ more. cond chosen id (rowid row) ∷ more) cast in
      let shown : show new ≡ values = ap show is_new ∙ shows_new (cond chosen id (rowid row)) in
      record {
        change = subst (λ v. Adds show v (db tree) (now.trees tree)) shown (subst (Adds show (show new) (db tree)) (sym rows) adds);
        others = subst (λ (t : Trees). AllByRecursion (λ u. u.tree ≢ tree → t u.tree ≡ db u.tree) schema.tables) (sym trees ∙ ap (λ (d : Database). d.trees) (sym is)) step.tables;
        same = ap (λ (d : Database). d.schema) is;
      }

  pub deletes : (at : ℕ) (terms : List Term) (db : Trees) (tally : Tally) (now : Database) (Test : Row → Type 0)
      → ((r : Row) → Has (db tree) r → list_all (holds (params ∷ r ∷ [])) terms ≡ true → Test (show r)) → ((r : Row) → Has (db tree) r → Test (show r) → list_all (holds (params ∷ r ∷ [])) terms ≡ true)
      → OnRows task mode None (Delete at (record { lets = []; body = table_query tree terms (col 1 0 ∷ []) [] [] })) db (Ok (tally, now)) → IsKeyed show (db tree) → Changes (Removes show Test) schema tree db now
  deletes at terms db tally now Test to from h keyed =
      let done = went h in
      let is = ap (λ (p : Tally × Database). p.1) (same_value (went (went done.2).2).2) in
      let found = went done.1 in
      let written = went found.2 in
      let trees : done.0.trees ≡ written.0 = ap (λ (it : Written). it.trees) (same_value written.2) in
      let edit = edit_of db table (ids_of found.0) Given 0 [] in
      let step = one_step schema mode.keys db written.0 edit (free (taken_by db edit) edit.news) written.1 in
      let rows : now.trees tree ≡ without_all (db tree) (ids_of found.0) = ap (λ (d : Database). d.trees tree) is ∙ ap (λ (t : Trees). t tree) trees ∙ step.rows in
      let shown = shows tree terms (col 1 0 ∷ []) [] [] (overlay db []) params found.0 (found.1.answer Null) in
      let removes = removes_found show Test (db tree) found.0 keyed
      (λ x h. let r = shown.sound x h in let there = subst (λ l. Has l r.0) (overlaid db tree) r.1 in (r.0, there, to r.0 there r.2, ap rowid r.3))
      (λ r h passes. (_, shown.complete r (subst (λ l. Has l r) (sym (overlaid db tree)) h) (from r h passes), refl)) in
      record {
        change = subst (Removes show Test (db tree)) (sym rows) removes;
        others = subst (λ (t : Trees). AllByRecursion (λ u. u.tree ≢ tree → t u.tree ≡ db u.tree) schema.tables) (sym trees ∙ ap (λ (d : Database). d.trees) (sym is)) step.tables;
        same = ap (λ (d : Database). d.schema) is;
      }
