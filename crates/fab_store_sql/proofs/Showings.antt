-- What a read shows, and what rising rowids tell.
use Rattle.std.proofs.Common.{◌≡◌, ◌⊎◌, ℕ, zero, suc, ◌<◌, ◌+◌, true, false, List, [], ◌∷◌, length, map, refl, Ok, sym, ap, subst, ◌∙◌, inl, inr, arith, Equal}
use Rattle.std.proofs.lemmas.Int.{ints}
use Rattle.sqlite.specs.declared.types.Value.TheVariants.{Null, Int, Text}
use Rattle.sqlite.specs.declared.error.Error.{Error}
use Rattle.sqlite.specs.Order.{Row, column, value_cmp}
use Rattle.sqlite_value.proofs.OrderLemmas.{value_cmp-Int}
use Rattle.sqlite.specs.Tree.{Trees, rowid}
use Rattle.sqlite.specs.Edit.{id_in}
use Rattle.sqlite_trees.specs.View.{is_int}
use Rattle.sqlite.specs.Program.{overlay}
use Rattle.sqlite.specs.Collation.TheVariants.{Binary}
use Rattle.sqlite_value.specs.Keys.{ascending}
use Rattle.sqlite.specs.Term.{col, eval_all}
use Rattle.sqlite.specs.Schema.{Schema}
use Rattle.sqlite.specs.State.{State, Survives, Shown, CommitsShowing, FailsToQuery, FailsToShow, IsStatement, IsUnchanged, IsRolledBack, ShowsRows}
use Rattle.sqlite.specs.Clock.{timed}
use Rattle.sqlite.specs.Effect.{Database}
use Rattle.sqlite.specs.Listing.{understood, reads_listing, IsSourceOf}
use Rattle.sqlite.proofs.StateLemmas.{survives_weaker}
use Rattle.sqlite.proofs.Callers.{IsPlain, reads_as, never_commits, unchanged_then}
use Rattle.sqlite_rules.specs.Lists.{Has}
use Rattle.sqlite_rules.proofs.ListLemmas.{has_contained, contains_had}
use Rattle.sqlite_rules.proofs.ProbeLemmas.{has_mapped, mapped_has}
use Rattle.sqlite_rules.proofs.TableLemmas.{int_is}
use Rattle.fab_store_load.specs.declared.fault.Table.{Table}
use Rattle.fab_store_load.specs.declared.fault.Table.TheVariants as table
use Rattle.fab_store_sql.specs.Schema.{desk_schema}
use Rattle.fab_store_sql.specs.Statements.{select_text, paths_text}
use Rattle.fab_store_sql.specs.Trees.{tree_of, width_of, show_of, tables_of}
use Rattle.fab_store_sql.specs.Rows.{IsKeyed}
use Rattle.fab_store_sql.specs.States.{IsDesk, IsReady}
use Rattle.fab_store_sql.specs.Reading.{AreShown, IsAny, IsOfHost, DoRise, id_at, AreLinesOf, Stays}
use Rattle.fab_store_sql.proofs.Meanings.{columns_from, keys_from, path_order, Selects, selects_is, paths_is}
use Rattle.fab_store_sql.proofs.Cells.{matched, matches, same_int}
use Rattle.fab_store_sql.proofs.Queries.{shows}
use Rattle.fab_store_sql.proofs.Edits.{overlaid}
use Rattle.fab_store_sql.proofs.Commits.{not_run}

pub cells_shown : (t : Table) (params r : Row) → eval_all (columns_from 0 (width_of t + 1)) (params ∷ r ∷ []) ≡ rowid r ∷ show_of t r
cells_shown table.Meta params r = refl
cells_shown table.Ports params r = refl
cells_shown table.Holders params r = refl
cells_shown table.Volumes params r = refl
cells_shown table.Zoning params r = refl
cells_shown table.Active params r = refl
cells_shown table.Groups params r = refl
cells_shown table.GroupParts params r = refl
cells_shown table.Plans params r = refl
cells_shown table.Approvals params r = refl
cells_shown table.Undo params r = refl
cells_shown table.Paths params r = refl
cells_shown table.Addresses params r = refl

-- a row that was shown shows the same
shown_again : (t : Table) (r : Row) → show_of t (rowid r ∷ show_of t r) ≡ show_of t r
shown_again table.Meta r = refl
shown_again table.Ports r = refl
shown_again table.Holders r = refl
shown_again table.Volumes r = refl
shown_again table.Zoning r = refl
shown_again table.Active r = refl
shown_again table.Groups r = refl
shown_again table.GroupParts r = refl
shown_again table.Plans r = refl
shown_again table.Approvals r = refl
shown_again table.Undo r = refl
shown_again table.Paths r = refl
shown_again table.Addresses r = refl

-- over any schema in which the text that shows the rows of the table means that
pub rows_read : (schema : Schema) (t : Table) → Selects schema t → (old new : State) (rows : List Row) → old.now.schema ≡ schema → Shown (select_text t) [] old new rows → AreShown t IsAny old.now.trees rows
rows_read schema t selects old new rows has shown =
    let read = reads_as (select_text t) [] old new schema has _ selects.0 selects.1 selects.2 rows shown in
    let s = shows (tree_of t) [] (columns_from 0 (width_of t + 1)) [] ((col 1 0, ascending Binary) ∷ []) (overlay old.now.trees []) [] rows (read.answer Null) in
    record {
      sound = λ x h. let r = s.sound x h in (r.0, subst (λ l. Has l r.0) (overlaid old.now.trees (tree_of t)) r.1, tt, r.3 ∙ cells_shown t [] r.0);
      complete = λ r h _. subst (Has rows) (cells_shown t [] r) (s.complete r (subst (λ l. Has l r) (sym (overlaid old.now.trees (tree_of t))) h) refl);
    }

pub rows_shown : (t : Table) (old new : State) (rows : List Row) → old.now.schema ≡ desk_schema → Shown (select_text t) [] old new rows → AreShown t IsAny old.now.trees rows
rows_shown t = rows_read desk_schema t (selects_is t)

pub paths_shown : (host : List ℕ) (old new : State) (rows : List Row) → old.now.schema ≡ desk_schema → Shown paths_text (Text host ∷ []) old new rows → AreShown table.Paths (IsOfHost host) old.now.trees rows
paths_shown host old new rows has shown =
    let key = Text host ∷ [] in
    let tree = tree_of table.Paths in
    let read = reads_as paths_text key old new desk_schema has _ paths_is.0 paths_is.1 paths_is.2 rows shown in
    let s = shows tree (keys_from 0 1) (columns_from 0 7) [] path_order (overlay old.now.trees []) key rows (read.answer Null) in
    let on = λ (i : ℕ). let e : 0 + i ≡ i = omega arith in ap (column key) e in
    record {
      sound = λ x h. let r = s.sound x h in
          (r.0, subst (λ l. Has l r.0) (overlaid old.now.trees tree) r.1, ap (λ l. column l 0) (matched r.0 key 1 0 key refl on (tt, tt) r.2), r.3 ∙ cells_shown table.Paths key r.0);
      complete = λ r h of. subst (Has rows) (cells_shown table.Paths key r)
          (s.complete r (subst (λ l. Has l r) (sym (overlaid old.now.trees tree)) h) (matches r key 1 0 key refl on (tt, tt) (ap (λ v. v ∷ []) of)));
    }

-- ---- what a query leaves

module _ (text : List ℕ) (params : Row) (old new : State) where
  pub shown_same : (rows : List Row) → IsPlain (understood old.now.schema text) → Shown text params old new rows → IsUnchanged old new
  unfolding Shown
  shown_same rows plain h =
      let none = (subst IsPlain h.1.is plain).0 in
      (subst (ShowsRows old new text h.0 _ rows) none h.2).3

  pub failed_same : (e : Error) → IsPlain (understood old.now.schema text) → FailsToQuery text params old new e → IsUnchanged old new ⊎ IsRolledBack old new
  unfolding FailsToQuery
  failed_same e plain (inl refused) = not_run old new text params e refused
  failed_same e plain (inr h) =
      let none = (subst IsPlain h.1.is plain).0 in
      inl (subst (FailsToShow old new text h.0 _ e) none h.2).3

  pub nothing_kept : IsPlain (understood old.now.schema text) → Survives old new (CommitsShowing text params old) → Survives old new (λ _. ⊥)
  nothing_kept plain = survives_weaker old new _ _ (λ clean db. never_commits text params old db plain)

-- what a query shows of a connection that is as it was, it shows of the one before
pub shown_since : (text : List ℕ) (params : Row) (old mid new : State) (rows : List Row) → IsUnchanged old mid → IsPlain (understood old.now.schema text) → Shown text params mid new rows → Shown text params old new rows
unfolding Shown
shown_since text params old mid new rows same plain h =
    let statement : IsStatement old text params h.0 = record { is = subst (λ (d : Database). understood d.schema text ≡ Ok h.0) same.0.now_is h.1.is; whole = h.1.whole; given = h.1.given; now = h.1.now } in
    let none = (subst IsPlain statement.is plain).0 in
    let full = timed params h.0.formats h.1.now in
    let it = subst (ShowsRows mid new text h.0 full rows) none h.2 in
    (h.0, statement, subst (ShowsRows old new text h.0 full rows) (sym none) (it.0, subst (λ (d : Database). IsSourceOf (reads_listing d.schema text) d it.0) same.0.now_is it.1, it.2, unchanged_then old mid new same it.3))

pub stays_from : (old new : State) → IsUnchanged old new ⊎ IsRolledBack old new → Stays old new
stays_from old new (inl same) settled is_open = (same.0.was_open, same.0.now_is, same.0.committed_is)
stays_from old new (inr back) settled is_open =
    let was = back.was_open is_open in
    let undone = back.undone is_open in
    (was, undone.0 ∙ sym (settled was), undone.1)

-- a ready connection is ready still
pub ready_still : (old new : State) → IsReady old → Stays old new → new.in_transaction ≡ false → IsReady new
ready_still old new ready stays outside is_open =
    let kept = stays (λ was. (ready was).same) is_open in
    let was = ready kept.0 in
    record { outside = outside; same = kept.1 ∙ was.same ∙ sym kept.2; desk = subst IsDesk (sym kept.1) was.desk }

-- ---- lines

pub lines_exact : {L : Type 0} (row : L → Row) (t : Table) (P : Row → Type 0) (db : Trees) (rows : List Row) (lines : List L) → AreShown t P db rows → map row lines ≡ map (show_of t) rows → AreLinesOf row P (tables_of db t) lines
lines_exact row t P db rows lines shown same r = (
  λ both.
      let held = has_mapped (show_of t) (db (tree_of t)) r (has_contained _ r both.0) in
      let p : P (show_of t held.0) = subst P held.2 both.1 in
      let there = mapped_has (show_of t) rows (rowid held.0 ∷ show_of t held.0) (shown.complete held.0 held.1 p) in
      let is : Has (map row lines) r = subst (Has (map row lines)) (shown_again t held.0 ∙ sym held.2) (subst (λ l. Has l (show_of t (rowid held.0 ∷ show_of t held.0))) (sym same) there) in
      let line = has_mapped row lines r is in
      (line.0, contains_had lines line.0 line.1, sym line.2),
  λ of.
      let is : Has (map (show_of t) rows) r = subst (λ l. Has l r) same (subst (Has (map row lines)) of.2 (mapped_has row lines of.0 (has_contained lines of.0 of.1))) in
      let x = has_mapped (show_of t) rows r is in
      let found = shown.sound x.0 x.1 in
      let e : r ≡ show_of t found.0 = x.2 ∙ ap (show_of t) found.3 ∙ shown_again t found.0 in
      (contains_had _ r (subst (Has (map (show_of t) (db (tree_of t)))) (sym e) (mapped_has (show_of t) (db (tree_of t)) found.0 found.1)), subst P (sym e) found.2),
)

-- ---- rowids

indexed : (xs : List Row) (x : Row) → Has xs x → (k : ℕ) × (k < length xs) × (id_at xs k ≡ x)
indexed [] x h = absurd h
indexed (y ∷ xs) x (inl same) = (zero, omega arith, sym same)
indexed (y ∷ xs) x (inr later) = let r = indexed xs x later in (suc r.0, omega (arith, r.1), r.2)

tied_ids : (rows : List Row) → DoRise rows → (j k : ℕ) → j < length rows → k < length rows → id_in (rowid (id_at rows j)) ≡ id_in (rowid (id_at rows k)) → j ≡ k
tied_ids rows up j k p q same = grind (arith, ints, up.rise j k, up.rise k j)

pub rise_keyed : (t : Table) (db : Trees) (rows : List Row) → AreShown t IsAny db rows → DoRise rows → IsKeyed (show_of t) (db (tree_of t))
rise_keyed t db rows shown up =
    let is = λ (r : Row) (h : Has (db (tree_of t)) r). indexed rows (rowid r ∷ show_of t r) (shown.complete r h tt) in
    let int = λ (r : Row) (h : Has (db (tree_of t)) r). let k = is r h in let v : is_int (rowid r) ≡ true = ap (λ x. is_int (rowid x)) (sym k.2) ∙ up.ints k.0 k.1 in v in
    record {
      once = λ a b p q tie.
          let i = is a p in
          let j = is b q in
          let m = id_in (rowid a) in
          let n = id_in (rowid b) in
          let e : value_cmp (Int m) (Int n) ≡ Equal = subst (λ v. value_cmp (Int m) v ≡ Equal) (int_is (rowid b) (int b q)) (subst (λ v. value_cmp v (rowid b) ≡ Equal) (int_is (rowid a) (int a p)) tie) in
          let ids : m ≡ n = same_int m n (sym (value_cmp-Int m n) ∙ e) in
          let at = tied_ids rows up i.0 j.0 i.1 j.1 (ap (λ x. id_in (rowid x)) i.2 ∙ ids ∙ ap (λ x. id_in (rowid x)) (sym j.2)) in
          sym (shown_again t a) ∙ ap (show_of t) (sym i.2 ∙ ap (id_at rows) at ∙ j.2) ∙ shown_again t b;
      keyed = int;
    }
