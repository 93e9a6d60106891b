-- What one statement for a line does to the tables.
use Rattle.std.proofs.Common.{◌≡◌, ◌≤◌, ℕ, List, length, take, take-take, Ok, refl, sym, ap, subst₂, ◌∙◌, arith}
use Rattle.std.proofs.lemmas.List.{length-take, take-map, length-map}
use Rattle.sqlite.specs.Order.{Row}
use Rattle.sqlite.specs.State.{State, ExecutesInside}
use Rattle.sqlite.specs.Values.{bound}
use Rattle.sqlite_value.specs.declared.value.ValueRef.{ValueRef}
use Rattle.fab_store_tables.specs.Tables.{table_of, row_of, key_of}
use Rattle.fab_store_tables.specs.declared.stored_line.TableLine.{TableLine}
use Rattle.fab_store_tables.specs.declared.stored_line.TableLine.TheVariants as line
use Rattle.fab_store_sql.specs.Cells.{value_of}
use Rattle.fab_store_sql.specs.Statements.{insert_text, delete_text}
use Rattle.fab_store_sql.specs.Trees.{key_width}
use Rattle.fab_store_sql.specs.States.{IsInside, IsOf, HasKey, Gains, Loses, Walks}
use Rattle.fab_store_sql.proofs.Puts.{adds_line, removes_line}
use Rattle.fab_store_sql.proofs.Walks.{gains_one, loses_one}

module _ {A : Type 0} (l : TableLine A) (old new : State) (inside : IsInside old) (text : List ℕ) (params : Row) (count : ℕ) where
  pub puts_line : text ≡ insert_text (table_of l) → params ≡ row_of l → ExecutesInside 0 text params old new (Ok count) → Walks (Gains (IsOf l)) old new
  puts_line is_text is_row ran = gains_one l old new (adds_line old new inside l (Ok count) (subst₂ (λ s p. ExecutesInside 0 s p old new (Ok count)) is_text is_row ran))

  pub takes_line : text ≡ delete_text (table_of l) → params ≡ key_of (table_of l) (row_of l) → ExecutesInside 0 text params old new (Ok count) → Walks (Loses (HasKey l)) old new
  takes_line is_text is_key ran = loses_one l old new (removes_line old new inside l (Ok count) (subst₂ (λ s p. ExecutesInside 0 s p old new (Ok count)) is_text is_key ran))

narrow : {A : Type 0} (l : TableLine A) → key_width (table_of l) ≤ length (row_of l)
narrow (line.Meta l) = omega arith
narrow (line.Port l) = omega arith
narrow (line.Holder l) = omega arith
narrow (line.Volume l) = omega arith
narrow (line.Zoning l) = omega arith
narrow (line.Active l) = omega arith
narrow (line.Group l) = omega arith
narrow (line.Part l) = omega arith
narrow (line.Plan l) = omega arith
narrow (line.Approval l) = omega arith
narrow (line.Undo l) = omega arith
narrow (line.Path l) = omega arith
narrow (line.Address l) = omega arith

key_first : {A : Type 0} (l : TableLine A) → take (key_width (table_of l)) (row_of l) ≡ key_of (table_of l) (row_of l)
key_first (line.Meta l) = refl
key_first (line.Port l) = refl
key_first (line.Holder l) = refl
key_first (line.Volume l) = refl
key_first (line.Zoning l) = refl
key_first (line.Active l) = refl
key_first (line.Group l) = refl
key_first (line.Part l) = refl
key_first (line.Plan l) = refl
key_first (line.Approval l) = refl
key_first (line.Undo l) = refl
key_first (line.Path l) = refl
key_first (line.Address l) = refl

-- the first values of a line are its key
pub key_cells : {A : Type 0} (l : TableLine A) (cells : List ValueRef) (count n : ℕ) → bound (take count cells) ≡ row_of l → n ≡ key_width (table_of l) → bound (take n cells) ≡ key_of (table_of l) (row_of l)
key_cells l cells count n row width =
    let long : length (row_of l) ≡ length (take count cells) = ap length (sym row) ∙ length-map (take count cells) value_of in
    let low : n ≤ count = omega (arith, narrow l, width, long, length-take count cells) in
    ap bound (sym (take-take n count cells low)) ∙ sym (take-map value_of n (take count cells)) ∙ ap (take n) row ∙ ap (λ k. take k (row_of l)) width ∙ key_first l
