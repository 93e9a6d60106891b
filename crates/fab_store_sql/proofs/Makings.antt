-- The tables of a new desk.
use Rattle.std.proofs.Common.{◌≡◌, ◌<◌, ℕ, zero, suc, List, [], map, get_or, Contains, true, refl, sym, ap, subst, ◌∙◌, inl, inr, arith}
use Rattle.sqlite.specs.Order.{Row}
use Rattle.sqlite.specs.Effect.{IsDatabase}
use Rattle.sqlite.specs.Held.{Held, state}
use Rattle.sqlite.specs.State.{State}
use Rattle.sqlite_rules.specs.Lists.{Has}
use Rattle.sqlite_rules.proofs.ListLemmas.{has_contained, contains_had}
use Rattle.sqlite_rules.proofs.ProbeLemmas.{has_mapped, mapped_has}
use Rattle.sqlite_trees.specs.declared.store.Store as store
use Rattle.fab_store_load.specs.declared.fault.Table.{Table}
use Rattle.fab_store_load.specs.declared.fault.Table.TheVariants as table
use Rattle.fab_store_tables.specs.Tables.{Tables, IsAmong, table_of, row_of}
use Rattle.fab_store_tables.specs.declared.stored_line.TableLine.{TableLine}
use Rattle.fab_store_sql.specs.Schema.{all_tables, place_of, tree_of}
use Rattle.fab_store_sql.specs.Trees.{show_of, tables_of}
use Rattle.fab_store_sql.specs.Rows.{IsKeyed}
use Rattle.fab_store_sql.specs.States.{IsInside, Gains}
use Rattle.fab_store_sql.specs.NewDesk.{HasMade, HaveJust, IsBlank, IsNewDesk, new_lines, new_rows}

-- the tables stand at their places
pub place_at : (i : ℕ) (d : Table) → i < 13 → place_of (get_or all_tables i d) ≡ i
place_at zero d low = refl
place_at (suc zero) d low = refl
place_at (suc (suc zero)) d low = refl
place_at (suc (suc (suc zero))) d low = refl
place_at (suc (suc (suc (suc zero)))) d low = refl
place_at (suc (suc (suc (suc (suc zero))))) d low = refl
place_at (suc (suc (suc (suc (suc (suc zero)))))) d low = refl
place_at (suc (suc (suc (suc (suc (suc (suc zero))))))) d low = refl
place_at (suc (suc (suc (suc (suc (suc (suc (suc zero)))))))) d low = refl
place_at (suc (suc (suc (suc (suc (suc (suc (suc (suc zero))))))))) d low = refl
place_at (suc (suc (suc (suc (suc (suc (suc (suc (suc (suc zero)))))))))) d low = refl
place_at (suc (suc (suc (suc (suc (suc (suc (suc (suc (suc (suc zero))))))))))) d low = refl
place_at (suc (suc (suc (suc (suc (suc (suc (suc (suc (suc (suc (suc zero)))))))))))) d low = refl
place_at (suc (suc (suc (suc (suc (suc (suc (suc (suc (suc (suc (suc (suc i))))))))))))) d low = absurd (omega (arith, low))

pub low_place : (t : Table) → place_of t < 13
low_place table.Meta = omega arith
low_place table.Ports = omega arith
low_place table.Holders = omega arith
low_place table.Volumes = omega arith
low_place table.Zoning = omega arith
low_place table.Active = omega arith
low_place table.Groups = omega arith
low_place table.GroupParts = omega arith
low_place table.Plans = omega arith
low_place table.Approvals = omega arith
low_place table.Undo = omega arith
low_place table.Paths = omega arith
low_place table.Addresses = omega arith

module _ (s : State) (made : HasMade 13 s) where
  none_in : (t : Table) → s.now.trees (tree_of t) ≡ []
  none_in t = made.empty t (low_place t)

  pub made_inside : IsDatabase s.now → IsInside s
  made_inside sound = record {
    inside = made.inside;
    desk = λ _. record { schema = made.schema; keyed = λ t. subst (IsKeyed (show_of t)) (sym (none_in t)) (record { once = λ a b p. absurd p; keyed = λ r p. absurd p }) };
    sound = λ _. sound;
  }

  -- the rows that are added are all
  pub filled : {A : Type 0} (lines : List (TableLine A)) (new : Tables) → Gains (IsAmong lines) (tables_of s.now.trees) new → HaveJust lines new
  filled lines new gains t r = (
    λ h. elim ((gains t r).0 h) [
      | inl was ↦ absurd (subst (λ rows. Has (map (show_of t) rows) r) (none_in t) (has_contained _ r was))
      | inr is ↦ is
    ],
    λ is. (gains t r).1 (inr is),
  )

-- ---- the lines of a new desk

meta_lines : {A : Type 0} (l : TableLine A) → Has new_lines l → table_of l ≡ table.Meta
meta_lines l (inl e) = ap table_of e
meta_lines l (inr (inl e)) = ap table_of e
meta_lines l (inr (inr (inl e))) = ap table_of e
meta_lines l (inr (inr (inr (inl e)))) = ap table_of e
meta_lines l (inr (inr (inr (inr (inl e))))) = ap table_of e
meta_lines l (inr (inr (inr (inr (inr (inl e)))))) = ap table_of e
meta_lines l (inr (inr (inr (inr (inr (inr none)))))) = absurd none

among_new : (t : Table) (r : Row) → table.Meta ≡ t → Has (new_rows table.Meta) r → Contains (new_rows t) r
among_new t r same h = subst (λ u. Contains (new_rows u) r) same (contains_had (new_rows table.Meta) r h)

new_among : {A : Type 0} (t : Table) (r : Row) → Has (new_rows t) r → IsAmong (new_lines {A = A}) t r
new_among {A} table.Meta r h = let l = has_mapped row_of (new_lines {A = A}) r h in (l.0, contains_had (new_lines {A = A}) l.0 l.1, meta_lines l.0 l.1, sym l.2)
new_among table.Ports r h = absurd h
new_among table.Holders r h = absurd h
new_among table.Volumes r h = absurd h
new_among table.Zoning r h = absurd h
new_among table.Active r h = absurd h
new_among table.Groups r h = absurd h
new_among table.GroupParts r h = absurd h
new_among table.Plans r h = absurd h
new_among table.Approvals r h = absurd h
new_among table.Undo r h = absurd h
new_among table.Paths r h = absurd h
new_among table.Addresses r h = absurd h

pub new_desk : {A : Type 0} (lines : List (TableLine A)) (tables : Tables) → lines ≡ new_lines → HaveJust lines tables → IsNewDesk tables
new_desk {A} lines tables same just t r = (
  λ h.
      let is = subst (λ ls. IsAmong ls t r) same ((just t r).0 h) in
      let l = has_contained new_lines is.0 is.1 in
      among_new t r (sym (meta_lines is.0 l) ∙ is.2) (subst (Has (map row_of (new_lines {A = A}))) is.3 (mapped_has row_of new_lines is.0 l)),
  λ h. (just t r).1 (subst (λ ls. IsAmong ls t r) (sym same) (new_among {A = A} t r (has_contained _ r h))),
)

-- a transaction begins over no table
pub made_begin : {S : Type 0} (g : store.Ghosts S) (old : Held S) → IsBlank (state g old) → HasMade 0 (state g (record old { in_transaction = true }))
made_begin g old blank = record { inside = refl; schema = blank.schema; empty = λ t low. absurd (omega (arith, low)) }
