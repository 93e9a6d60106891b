-- How a transaction of changes begins and ends.
use Rattle.std.proofs.Common.{◌≡◌, ◌⊎◌, ℕ, List, Result, Ok, Err, OnErr, IfErr, IfOk, OnOk, IsTrue, true, false, refl, sym, subst, ◌∙◌, inl, inr}
use Rattle.sqlite.specs.Effect.{Database, IsDatabase}
use Rattle.sqlite.specs.declared.error.Error.{Error}
use Rattle.sqlite.specs.Order.{Row}
use Rattle.sqlite.specs.State.{State, Shows, IsUnchanged, IsRolledBack, IsNotRun, KeepsCommit}
use Rattle.std.proofs.lemmas.Bool.{both_ways}
use Rattle.sqlite.specs.Steps.{FailsToCommit}
use Rattle.sqlite.specs.Held.{Held, state}
use Rattle.sqlite_trees.specs.declared.store.Store as store
use Rattle.sqlite_trees.specs.Tree.{Trees}
use Rattle.fab_store_tables.specs.Tables.{CanChange, AreChanged}
use Rattle.fab_store_tables.specs.declared.changes.LineChanges.{LineChanges}
use Rattle.fab_store_sql.specs.Trees.{tables_of}
use Rattle.fab_store_sql.specs.States.{IsDesk, IsReady, IsServing, IsInside}

pub held_err : {T E P : Type 0} (r : Result T E) → P → OnErr r P
held_err (Ok x) p = tt
held_err (Err e) p = p

pub settled_back : (old mid new : State) → IsServing old → KeepsCommit old mid → IsRolledBack mid new → IsTrue new.is_open → IsServing new × (new.now ≡ old.now)
settled_back old mid new was kept back is_open =
    let undone = back.undone is_open in
    let now : new.now ≡ old.now = undone.0 ∙ kept.committed (back.was_open is_open) ∙ sym was.settled.same in (
      record {
        is_open = is_open;
        settled = record { outside = back.autocommit; same = undone.0 ∙ sym undone.1; desk = subst IsDesk (sym now) was.settled.desk };
        sound = subst IsDatabase (sym now) was.sound;
      },
      now,
    )

pub settled_commit : (last new : State) → IsInside last → Shows last new last.now last.now false → IsServing new
settled_commit last new ready shown = record {
  is_open = shown.is_open;
  settled = record {
    outside = shown.mode;
    same = shown.now_is ∙ sym shown.committed_is;
    desk = subst IsDesk (sym shown.now_is) (ready.desk shown.was_open);
  };
  sound = subst IsDatabase (sym shown.now_is) (ready.sound shown.was_open);
}

-- `transaction` does nothing to the store
pub kept_begin : {S : Type 0} (g : store.Ghosts S) (old : Held S) (mid : State) → KeepsCommit (state g (record old { in_transaction = true })) mid → KeepsCommit (state g old) mid
kept_begin g old mid k = record { was_open = k.was_open; committed = k.committed }

-- a transaction begins over the tables
pub inside_begin : {S : Type 0} (g : store.Ghosts S) (old : Held S) → IsServing (state g old) → IsInside (state g (record old { in_transaction = true }))
inside_begin g old s = record { inside = refl; desk = λ _. s.settled.desk; sound = λ _. s.sound }

pub not_run : (old new : State) (sql : List ℕ) (params : Row) (e : Error) → IsNotRun old new sql params e → IsUnchanged old new ⊎ IsRolledBack old new
unfolding IsNotRun
not_run old new sql params e (inl refused) = inl refused.1
not_run old new sql params e (inr failed) = inr failed.3

-- a ready connection that showed that it is open
pub serving : (old mid : State) → IsReady old → IsUnchanged old mid → IsDatabase mid.now → IsServing mid
serving old mid ready same sound =
    let was = ready same.0.was_open in
    record {
      is_open = same.0.is_open;
      settled = record {
        outside = same.0.mode ∙ was.outside;
        same = same.0.now_is ∙ was.same ∙ sym same.0.committed_is;
        desk = subst IsDesk (sym same.0.now_is) was.desk;
      };
      sound = sound;
    }

pub ready_still : (old new : State) → IsReady old → IsUnchanged old new ⊎ IsRolledBack old new → IsReady new
ready_still old new ready (inl same) is_open =
    let was = ready same.0.was_open in
    record { outside = same.0.mode ∙ was.outside; same = same.0.now_is ∙ was.same ∙ sym same.0.committed_is; desk = subst IsDesk (sym same.0.now_is) was.desk }
ready_still old new ready (inr back) is_open =
    let was = ready (back.was_open is_open) in
    let undone = back.undone is_open in
    record { outside = back.autocommit; same = undone.0 ∙ sym undone.1; desk = subst IsDesk (sym (undone.0 ∙ sym was.same)) was.desk }

-- the changes of the tables as they are once more
pub can_still : {A : Type 0} (changes : LineChanges A) (old mid : State) → mid.now ≡ old.now → CanChange changes (tables_of old.now.trees) → CanChange changes (tables_of mid.now.trees)
can_still changes old mid same can = subst (λ (d : Database). CanChange changes (tables_of d.trees)) (sym same) can

pub changed_from : {A : Type 0} (changes : LineChanges A) (old mid : State) (trees : Trees) → mid.now ≡ old.now → AreChanged changes (tables_of mid.now.trees) (tables_of trees) → AreChanged changes (tables_of old.now.trees) (tables_of trees)
changed_from changes old mid trees same are = subst (λ (d : Database). AreChanged changes (tables_of d.trees) (tables_of trees)) same are

-- a commit that failed left the tables as they were
pub failed_commit : {T : Type 0} (r : Result T Error) (old last new : State) → IsServing old → IsInside last → KeepsCommit old last → IfErr r (FailsToCommit last new) → OnErr r (IsTrue new.is_open → IsServing new × (new.now ≡ old.now))
failed_commit (Ok x) old last new was inside kept fails = tt
failed_commit (Err e) old last new was inside kept (inl failed) = settled_back old last new was kept failed.3
failed_commit (Err e) old last new was inside kept (inr ended) = absurd (both_ways _ ended.1 inside.inside)

pub held_ok : {T E P : Type 0} (r : Result T E) → P → OnOk r P
held_ok (Ok x) p = p
held_ok (Err e) p = tt

pub ok_both : {T E P : Type 0} (r : Result T E) (Q R : T → Type 0) → ((x : T) → P → Q x → R x) → OnOk r P → IfOk r Q → IfOk r R
ok_both (Ok x) Q R f p q = f x p q
ok_both (Err e) Q R f p q = tt
