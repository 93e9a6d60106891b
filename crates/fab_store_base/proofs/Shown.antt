-- The rows of lines that stand in a world.
use Rattle.std.proofs.Common.{◌≡◌, refl, sym, subst}
use Rattle.sqlite.specs.Order.{Row}
use Rattle.fab_store_columns.specs.MetaLines.{ShowsMeta}
use Rattle.fab_store_columns.specs.declared.meta_lines.MetaRow.{MetaRow}
use Rattle.fab_store_columns.specs.declared.meta_lines.MetaRow.TheVariants as meta
use Rattle.fab_store_load.specs.declared.fault.Table.{Table}
use Rattle.fab_store_load.specs.declared.fault.Table.TheVariants as table
use Rattle.fab_store_rows.specs.declared.config_row.ConfigRow.TheVariants as config
use Rattle.fab_store_rows.specs.declared.table_rows.CountRow.TheVariants.{Schema, Revision}
use Rattle.fab_store_tables.proofs.OneRow.{one_row}
use Rattle.fab_store_tables.proofs.LinesOfTables.{one_table_line}
use Rattle.fab_store_tables.specs.Rows.{AnyRow, count, port, address, holder, volume, config_row, plan, approval, undo, path, ShowsRow}
use Rattle.fab_store_base.specs.Standing.{StandsRow}
use Rattle.fab_store_base.specs.Worlds.{IsMetaRow, StandsIn}
use Rattle.fab_store_tables.specs.Tables.{table_of, row_of}
use Rattle.fab_store_tables.specs.declared.stored_line.TableLine.{TableLine}
use Rattle.fab_store_tables.specs.declared.stored_line.TableLine.TheVariants as line
use Rattle.fab_world.specs.Worlds.{WorldRows}

-- a line shows a row that stands, and has these columns
pub record IsStanding (A : Type 0) (w : WorldRows) (t : Table) (columns : Row) : Type 0 where
  pub row : AnyRow
  pub line : TableLine A
  pub shows : ShowsRow row line
  pub stands : StandsRow w row
  pub in_table : table_of line ≡ t
  pub is : row_of line ≡ columns

module _ {A : Type 0} (w : WorldRows) where
  -- the columns of the line stand in its table
  Stands : TableLine A → Type 0
  Stands l = StandsIn w (table_of l) (row_of l)

  pub stands_in : (x : AnyRow) (l : TableLine A) → ShowsRow x l → StandsRow w x → StandsIn w (table_of l) (row_of l)
  unfolding Stands
  stands_in (count (Schema n)) l s stands = subst Stands (sym s.is) (record { line = s.columns; is = refl; shown = meta.Schema n; shows = s.shows; stands = stands })
  stands_in (count (Revision n)) l s stands = subst Stands (sym s.is) (record { line = s.columns; is = refl; shown = meta.Revision n; shows = s.shows; stands = stands })
  stands_in (port r) l s stands = subst Stands (sym s.is) (record { line = s.columns; is = refl; shown = r; shows = s.shows; stands = stands })
  stands_in (address r) l s stands = subst Stands (sym s.is) (record { line = s.columns; is = refl; shown = r; shows = s.shows; stands = stands })
  stands_in (holder r) l s stands = subst Stands (sym s.is) (record { line = s.columns; is = refl; shown = r; shows = s.shows; stands = stands })
  stands_in (volume r) l s stands = subst Stands (sym s.is) (record { line = s.columns; is = refl; shown = r; shows = s.shows; stands = stands })
  stands_in (config_row (config.Setting r)) l s stands = subst Stands (sym s.is) (record { line = s.columns; is = refl; shown = meta.Setting r; shows = s.shows; stands = stands })
  stands_in (config_row (config.Zoning r)) l s stands = subst Stands (sym s.is) (record { line = s.columns; is = refl; shown = r; shows = s.shows; stands = stands })
  stands_in (config_row (config.Active r)) l s stands = subst Stands (sym s.is) (record { line = s.columns; is = refl; shown = r; shows = s.shows; stands = stands })
  stands_in (config_row (config.Group r)) l s stands = subst Stands (sym s.is) (record { line = s.columns; is = refl; shown = r; shows = s.shows; stands = stands })
  stands_in (config_row (config.Part r)) l s stands = subst Stands (sym s.is) (record { line = s.columns; is = refl; shown = r; shows = s.shows; stands = stands })
  stands_in (plan r) l s stands = subst Stands (sym s.is) (record { line = s.columns; is = refl; shown = r; shows = s.shows; stands = stands })
  stands_in (approval r) l s stands = subst Stands (sym s.is) (record { line = s.columns; is = refl; shown = r; shows = s.shows; stands = stands })
  stands_in (undo r) l s stands = subst Stands (sym s.is) (record { line = s.columns; is = refl; shown = r; shows = s.shows; stands = stands })
  stands_in (path r) l s stands = subst Stands (sym s.is) (record { line = s.columns; is = refl; shown = r; shows = s.shows; stands = stands })

  pub standing : (t : Table) (columns : Row) → StandsIn w t columns → IsStanding A w t columns
  standing table.Meta columns s = by s.shown s.shows s.stands
    where
      by : (m : MetaRow) → ShowsMeta s.line m → IsMetaRow w m → IsStanding A w table.Meta columns
      by (meta.Schema n) shows stands = record { row = count (Schema n); line = line.Meta s.line; shows = record { columns = s.line; shows = shows; is = refl }; stands = stands; in_table = refl; is = sym s.is }
      by (meta.Revision n) shows stands = record { row = count (Revision n); line = line.Meta s.line; shows = record { columns = s.line; shows = shows; is = refl }; stands = stands; in_table = refl; is = sym s.is }
      by (meta.Setting r) shows stands = record { row = config_row (config.Setting r); line = line.Meta s.line; shows = record { columns = s.line; shows = shows; is = refl }; stands = stands; in_table = refl; is = sym s.is }
  standing table.Ports columns s = record { row = port s.shown; line = line.Port s.line; shows = record { columns = s.line; shows = s.shows; is = refl }; stands = s.stands; in_table = refl; is = sym s.is }
  standing table.Addresses columns s = record { row = address s.shown; line = line.Address s.line; shows = record { columns = s.line; shows = s.shows; is = refl }; stands = s.stands; in_table = refl; is = sym s.is }
  standing table.Holders columns s = record { row = holder s.shown; line = line.Holder s.line; shows = record { columns = s.line; shows = s.shows; is = refl }; stands = s.stands; in_table = refl; is = sym s.is }
  standing table.Volumes columns s = record { row = volume s.shown; line = line.Volume s.line; shows = record { columns = s.line; shows = s.shows; is = refl }; stands = s.stands; in_table = refl; is = sym s.is }
  standing table.Zoning columns s = record { row = config_row (config.Zoning s.shown); line = line.Zoning s.line; shows = record { columns = s.line; shows = s.shows; is = refl }; stands = s.stands; in_table = refl; is = sym s.is }
  standing table.Active columns s = record { row = config_row (config.Active s.shown); line = line.Active s.line; shows = record { columns = s.line; shows = s.shows; is = refl }; stands = s.stands; in_table = refl; is = sym s.is }
  standing table.Groups columns s = record { row = config_row (config.Group s.shown); line = line.Group s.line; shows = record { columns = s.line; shows = s.shows; is = refl }; stands = s.stands; in_table = refl; is = sym s.is }
  standing table.GroupParts columns s = record { row = config_row (config.Part s.shown); line = line.Part s.line; shows = record { columns = s.line; shows = s.shows; is = refl }; stands = s.stands; in_table = refl; is = sym s.is }
  standing table.Plans columns s = record { row = plan s.shown; line = line.Plan s.line; shows = record { columns = s.line; shows = s.shows; is = refl }; stands = s.stands; in_table = refl; is = sym s.is }
  standing table.Approvals columns s = record { row = approval s.shown; line = line.Approval s.line; shows = record { columns = s.line; shows = s.shows; is = refl }; stands = s.stands; in_table = refl; is = sym s.is }
  standing table.Undo columns s = record { row = undo s.shown; line = line.Undo s.line; shows = record { columns = s.line; shows = s.shows; is = refl }; stands = s.stands; in_table = refl; is = sym s.is }
  standing table.Paths columns s = record { row = path s.shown; line = line.Path s.line; shows = record { columns = s.line; shows = s.shows; is = refl }; stands = s.stands; in_table = refl; is = sym s.is }

  -- the row of a line whose columns stand stands
  pub stands_out : (x : AnyRow) (l : TableLine A) → ShowsRow x l → StandsIn w (table_of l) (row_of l) → StandsRow w x
  stands_out x l shows stands =
      let s = standing (table_of l) (row_of l) stands in
      let same = one_table_line s.line l s.in_table s.is in
      subst (StandsRow w) (one_row l s.row x (subst (ShowsRow s.row) same s.shows) shows) s.stands
