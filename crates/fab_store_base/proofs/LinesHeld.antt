-- The columns of lines, and the rows that stand in a world.
use Rattle.std.proofs.Common.{ℕ, zero, suc, ◌≡◌, ◌↔◌, List, [], ◌∷◌, slice_get, Contains, Some, refl, sym, subst}
use Rattle.sqlite.specs.Order.{Row}
use Rattle.std.specs.List.{AllZip}
use Rattle.fab_store_world.specs.Positions.{IsOrder}
use Rattle.fab_store_columns.proofs.Unique.{same_name}
use Rattle.fab_store_columns.specs.PlanLines.{ShowsPlan}
use Rattle.fab_store_load.specs.declared.fault.Table.{Table}
use Rattle.fab_store_load.specs.declared.fault.Table.TheVariants as table
use Rattle.fab_names.specs.Names.{SpellsName}
use Rattle.fab_store_rows.specs.declared.table_rows.TableRows.{TableRows}
use Rattle.fab_store_tables.proofs.LinesOfTables.{one_table_line}
use Rattle.fab_store_tables.proofs.OneRow.{one_row, one_line}
use Rattle.fab_store_tables.specs.Reading.{IsIn, HasRow, AreRowsOf, HasOddLine}
use Rattle.fab_store_tables.specs.Rows.{AnyRow, plan, ShowsRow}
use Rattle.fab_store_tables.specs.declared.lines.TableLines.{TableLines}
use Rattle.fab_store_base.proofs.Distinct.{in_map, map_in}
use Rattle.fab_store_base.proofs.KeysOfRows.{one_plan_key}
use Rattle.fab_store_base.proofs.Shown.{stands_in, stands_out, standing}
use Rattle.fab_store_base.specs.Opened.{tables_of, HasLines, ArePlansOnce}
use Rattle.fab_store_base.specs.Standing.{StandsRow}
use Rattle.fab_store_base.specs.Worlds.{StandsIn, HoldsWorld}
use Rattle.fab_store_world.specs.PlanRows.{HaveNames}
use Rattle.fab_store_tables.specs.Columns.{meta_row, port_row, address_row, holder_row, volume_row, zoning_row, active_row, group_row, part_row, plan_row, approval_row, undo_row, path_row}
use Rattle.fab_store_tables.specs.Tables.{table_of, row_of}
use Rattle.fab_store_tables.specs.declared.stored_line.TableLine.{TableLine}
use Rattle.fab_store_tables.specs.declared.stored_line.TableLine.TheVariants as line
use Rattle.fab_world.specs.Worlds.{WorldRows}
use Rattle.fab_store_tables.proofs.LinesAdded.{at_place}

-- the columns of a line are in its table
in_tables : {A : Type 0} (lines : TableLines) (l : TableLine A) → IsIn lines l → Contains (tables_of lines (table_of l)) (row_of l)
in_tables lines (line.Meta l) there = map_in meta_row lines.meta.items l there
in_tables lines (line.Port l) there = map_in port_row lines.ports.items l there
in_tables lines (line.Address l) there = map_in address_row lines.addresses.items l there
in_tables lines (line.Holder l) there = map_in holder_row lines.holders.items l there
in_tables lines (line.Volume l) there = map_in volume_row lines.volumes.items l there
in_tables lines (line.Zoning l) there = map_in zoning_row lines.zoning.items l there
in_tables lines (line.Active l) there = map_in active_row lines.active.items l there
in_tables lines (line.Group l) there = map_in group_row lines.groups.items l there
in_tables lines (line.Part l) there = map_in part_row lines.parts.items l there
in_tables lines (line.Plan l) there = map_in plan_row lines.plans.items l there
in_tables lines (line.Approval l) there = map_in approval_row lines.approvals.items l there
in_tables lines (line.Undo l) there = map_in undo_row lines.undo.items l there
in_tables lines (line.Path l) there = map_in path_row lines.paths.items l there

-- a line of the table has the columns
record IsFrom (A : Type 0) (lines : TableLines) (t : Table) (columns : Row) : Type 0 where
  line : TableLine A
  here : IsIn lines line
  in_table : table_of line ≡ t
  is : row_of line ≡ columns

from_tables : (A : Type 0) (lines : TableLines) (t : Table) (columns : Row) → Contains (tables_of lines t) columns → IsFrom A lines t columns
from_tables A lines table.Meta columns there = let s = in_map meta_row lines.meta.items columns there in record { line = line.Meta s.0; here = s.1; in_table = refl; is = s.2 }
from_tables A lines table.Ports columns there = let s = in_map port_row lines.ports.items columns there in record { line = line.Port s.0; here = s.1; in_table = refl; is = s.2 }
from_tables A lines table.Addresses columns there = let s = in_map address_row lines.addresses.items columns there in record { line = line.Address s.0; here = s.1; in_table = refl; is = s.2 }
from_tables A lines table.Holders columns there = let s = in_map holder_row lines.holders.items columns there in record { line = line.Holder s.0; here = s.1; in_table = refl; is = s.2 }
from_tables A lines table.Volumes columns there = let s = in_map volume_row lines.volumes.items columns there in record { line = line.Volume s.0; here = s.1; in_table = refl; is = s.2 }
from_tables A lines table.Zoning columns there = let s = in_map zoning_row lines.zoning.items columns there in record { line = line.Zoning s.0; here = s.1; in_table = refl; is = s.2 }
from_tables A lines table.Active columns there = let s = in_map active_row lines.active.items columns there in record { line = line.Active s.0; here = s.1; in_table = refl; is = s.2 }
from_tables A lines table.Groups columns there = let s = in_map group_row lines.groups.items columns there in record { line = line.Group s.0; here = s.1; in_table = refl; is = s.2 }
from_tables A lines table.GroupParts columns there = let s = in_map part_row lines.parts.items columns there in record { line = line.Part s.0; here = s.1; in_table = refl; is = s.2 }
from_tables A lines table.Plans columns there = let s = in_map plan_row lines.plans.items columns there in record { line = line.Plan s.0; here = s.1; in_table = refl; is = s.2 }
from_tables A lines table.Approvals columns there = let s = in_map approval_row lines.approvals.items columns there in record { line = line.Approval s.0; here = s.1; in_table = refl; is = s.2 }
from_tables A lines table.Undo columns there = let s = in_map undo_row lines.undo.items columns there in record { line = line.Undo s.0; here = s.1; in_table = refl; is = s.2 }
from_tables A lines table.Paths columns there = let s = in_map path_row lines.paths.items columns there in record { line = line.Path s.0; here = s.1; in_table = refl; is = s.2 }

-- what stands at a place, and the line that shows it
zip_at : {L R : Type 0} (Shows : L → R → Type 0) (ls : List L) (rs : List R) → AllZip Shows ls rs → (i : ℕ) (r : R) → slice_get rs i ≡ Some r → (l : L) × (slice_get ls i ≡ Some l) × Shows l r
zip_at Shows ls [] h i r at = absurd cc
zip_at Shows [] (s ∷ rs) h i r at = absurd h
zip_at Shows (l ∷ ls) (s ∷ rs) h zero r at = let same : s ≡ r = cc in (l, refl, subst (Shows l) same h.0)
zip_at Shows (l ∷ ls) (s ∷ rs) h (suc i) r at = zip_at Shows ls rs h.1 i r at

module _ {A : Type 0} (lines : TableLines) (w : WorldRows) where
  -- what holds of the table and the columns of a line
  at_line : (P : Table → Row → Type 0) (l : TableLine A) (t : Table) (columns : Row) → table_of l ≡ t → row_of l ≡ columns → P (table_of l) (row_of l) → P t columns
  at_line P l t columns tables rows p = subst (λ u. P u columns) tables (subst (P (table_of l)) rows p)

  -- where a world's columns are those of the lines, no line shows nothing
  pub no_odd : HoldsWorld (tables_of lines) w → (t : Table) → HasOddLine A lines t → ⊥
  no_odd holds t (l, there, in_table, none) =
      let s = standing {A = A} w (table_of l) (row_of l) ((holds (table_of l) (row_of l)).0 (in_tables lines l there)) in
      none s.row (subst (ShowsRow s.row) (one_table_line s.line l s.in_table s.is) s.shows)

  module _ (rows : TableRows A) (of : AreRowsOf lines rows) where
    -- the rows that stand are those of the lines
    pub holds_rows : ((x : AnyRow) → HasRow rows x ↔ StandsRow w x) → HoldsWorld (tables_of lines) w
    holds_rows are t columns = (
      λ there.
          let f = from_tables A lines t columns there in
          let s = of.each f.line f.here in
          at_line (StandsIn w) f.line t columns f.in_table f.is (stands_in w s.0 f.line s.2 ((are s.0).0 s.1)),
      λ stands.
          let s = standing {A = A} w t columns stands in
          let m = of.every s.row ((are s.row).1 s.stands) in
          at_line (λ u r. Contains (tables_of lines u) r) s.line t columns s.in_table s.is (in_tables lines s.line (subst (IsIn lines) (one_line s.row m.0 s.line m.2 s.shows) m.1)),
    )

    pub has_lines : ((x : AnyRow) → HasRow rows x ↔ StandsRow w x) → (x : AnyRow) → StandsRow w x → (l : TableLine A) × ShowsRow x l
    has_lines are x stands = let s = of.every x ((are x).1 stands) in (s.0, s.2)

    pub rows_stand : HoldsWorld (tables_of lines) w → HasLines A w → (x : AnyRow) → HasRow rows x ↔ StandsRow w x
    rows_stand holds lined x = (
      λ there.
          let s = of.every x there in
          stands_out w x s.0 s.2 ((holds (table_of s.0) (row_of s.0)).0 (in_tables lines s.0 s.1)),
      λ stands.
          let l = lined.rows x stands in
          let f = from_tables A lines (table_of l.0) (row_of l.0) ((holds (table_of l.0) (row_of l.0)).1 (stands_in w x l.0 l.1 stands)) in
          let s = of.each l.0 (subst (IsIn lines) (one_table_line f.line l.0 f.in_table f.is) f.here) in
          subst (HasRow rows) (one_row l.0 s.0 x s.2 l.1) s.1,
    )

    -- no two rows of plans have one name
    pub have_names : IsOrder w.order → ArePlansOnce lines → ((x : AnyRow) → HasRow rows x → StandsRow w x) → HaveNames rows.plans.items
    have_names order once stands i j r s at_i at_j same =
        let l = zip_at ShowsPlan lines.plans.items rows.plans.items of.plans i r at_i in
        let m = zip_at ShowsPlan lines.plans.items rows.plans.items of.plans j s at_j in
        let text = same_name l.0.name m.0.name r.name l.2.name (subst (SpellsName m.0.name) (sym same) m.2.name) in
        let line_is = one_plan_key w order l.0 m.0 r s l.2 m.2 (stands (plan r) (at_place rows.plans.items i r at_i)) (stands (plan s) (at_place rows.plans.items j s at_j)) text in
        once i j m.0 (subst (λ x. slice_get lines.plans.items i ≡ Some x) line_is l.1) m.1
