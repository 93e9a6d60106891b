-- A line shows one row at most, and a row is shown by one line.
use Rattle.std.proofs.Common.{◌≡◌, refl, sym, ap, ◌∙◌, subst}
use Rattle.fab_store_columns.proofs.Unique.{one_port, one_port_line, one_address, one_address_line, one_holder, one_holder_line, one_volume, one_volume_line}
use Rattle.fab_store_columns.proofs.UniqueConfig.{one_meta, one_meta_line, one_zoning, one_zoning_line, one_active, one_active_line, one_group, one_group_line, one_part, one_part_line, one_approval, one_approval_line, one_path, one_path_line}
use Rattle.fab_store_columns.proofs.UniquePlan.{one_plan, one_plan_line}
use Rattle.fab_store_columns.specs.GroupLines.{ShowsGroup, ShowsPart}
use Rattle.fab_store_columns.specs.InventoryLines.{ShowsPort, ShowsAddress, ShowsHolder, ShowsVolume}
use Rattle.fab_store_columns.specs.MetaLines.{ShowsMeta}
use Rattle.fab_store_columns.specs.PlanLines.{ShowsPlan}
use Rattle.fab_store_columns.specs.RecordLines.{ShowsApproval, ShowsPath}
use Rattle.fab_store_columns.specs.ZoningLines.{ShowsZoning, ShowsActive}
use Rattle.fab_store_columns.specs.declared.meta_lines.MetaRow.{MetaRow}
use Rattle.fab_store_columns.specs.declared.meta_lines.MetaRow.TheVariants as meta
use Rattle.fab_store_rows.specs.declared.config_row.ConfigRow.TheVariants as config
use Rattle.fab_store_rows.specs.declared.table_rows.CountRow.TheVariants.{Schema, Revision}
use Rattle.fab_store_tables.specs.declared.stored_line.TableLine.{TableLine}
use Rattle.fab_store_tables.specs.declared.stored_line.TableLine.TheVariants as line
use Rattle.fab_store_tables.proofs.Unique.{one_undo, one_undo_line}
use Rattle.fab_store_tables.specs.UndoLines.{ShowsUndo}
use Rattle.fab_store_tables.specs.Rows.{AnyRow, count, port, address, holder, volume, config_row, plan, approval, undo, path, IsLine, ShowsRow}

-- ---- by the line

-- the row that a line of settings shows
abbrev pub meta_as : MetaRow → AnyRow
meta_as (meta.Schema n) = count (Schema n)
meta_as (meta.Revision n) = count (Revision n)
meta_as (meta.Setting r) = config_row (config.Setting r)

-- the columns show this row
pub record IsRead {L R : Type 0} (Shows : L → R → Type 0) (as_row : R → AnyRow) (columns : L) (x : AnyRow) : Type 0 where
  pub row : R
  pub shows : Shows columns row
  pub is : x ≡ as_row row

-- the line shows this row
abbrev pub Reads : {A : Type 0} → TableLine A → AnyRow → Type 0
Reads (line.Meta c) = IsRead ShowsMeta meta_as c
Reads (line.Port c) = IsRead ShowsPort port c
Reads (line.Address c) = IsRead ShowsAddress address c
Reads (line.Holder c) = IsRead ShowsHolder holder c
Reads (line.Volume c) = IsRead ShowsVolume volume c
Reads (line.Zoning c) = IsRead ShowsZoning (λ r. config_row (config.Zoning r)) c
Reads (line.Active c) = IsRead ShowsActive (λ r. config_row (config.Active r)) c
Reads (line.Group c) = IsRead ShowsGroup (λ r. config_row (config.Group r)) c
Reads (line.Part c) = IsRead ShowsPart (λ r. config_row (config.Part r)) c
Reads (line.Plan c) = IsRead ShowsPlan plan c
Reads (line.Approval c) = IsRead ShowsApproval approval c
Reads (line.Undo c) = IsRead ShowsUndo undo c
Reads (line.Path c) = IsRead ShowsPath path c

pub reads : {A : Type 0} (x : AnyRow) (l : TableLine A) → ShowsRow x l → Reads l x
reads (count (Schema n)) l s = subst (λ m. Reads m (count (Schema n))) (sym s.is) (record { row = meta.Schema n; shows = s.shows; is = refl })
reads (count (Revision n)) l s = subst (λ m. Reads m (count (Revision n))) (sym s.is) (record { row = meta.Revision n; shows = s.shows; is = refl })
reads (port r) l s = subst (λ m. Reads m (port r)) (sym s.is) (record { row = r; shows = s.shows; is = refl })
reads (address r) l s = subst (λ m. Reads m (address r)) (sym s.is) (record { row = r; shows = s.shows; is = refl })
reads (holder r) l s = subst (λ m. Reads m (holder r)) (sym s.is) (record { row = r; shows = s.shows; is = refl })
reads (volume r) l s = subst (λ m. Reads m (volume r)) (sym s.is) (record { row = r; shows = s.shows; is = refl })
reads (config_row (config.Setting r)) l s = subst (λ m. Reads m (config_row (config.Setting r))) (sym s.is) (record { row = meta.Setting r; shows = s.shows; is = refl })
reads (config_row (config.Zoning r)) l s = subst (λ m. Reads m (config_row (config.Zoning r))) (sym s.is) (record { row = r; shows = s.shows; is = refl })
reads (config_row (config.Active r)) l s = subst (λ m. Reads m (config_row (config.Active r))) (sym s.is) (record { row = r; shows = s.shows; is = refl })
reads (config_row (config.Group r)) l s = subst (λ m. Reads m (config_row (config.Group r))) (sym s.is) (record { row = r; shows = s.shows; is = refl })
reads (config_row (config.Part r)) l s = subst (λ m. Reads m (config_row (config.Part r))) (sym s.is) (record { row = r; shows = s.shows; is = refl })
reads (plan r) l s = subst (λ m. Reads m (plan r)) (sym s.is) (record { row = r; shows = s.shows; is = refl })
reads (approval r) l s = subst (λ m. Reads m (approval r)) (sym s.is) (record { row = r; shows = s.shows; is = refl })
reads (undo r) l s = subst (λ m. Reads m (undo r)) (sym s.is) (record { row = r; shows = s.shows; is = refl })
reads (path r) l s = subst (λ m. Reads m (path r)) (sym s.is) (record { row = r; shows = s.shows; is = refl })

one_as : {L R : Type 0} {Shows : L → R → Type 0} (as_row : R → AnyRow) → ((c : L) (p q : R) → Shows c p → Shows c q → p ≡ q) → (c : L) (x y : AnyRow) → IsRead Shows as_row c x → IsRead Shows as_row c y → x ≡ y
one_as as_row one c x y h k = h.is ∙ ap as_row (one c h.row k.row h.shows k.shows) ∙ sym k.is

one_read : {A : Type 0} (l : TableLine A) (x y : AnyRow) → Reads l x → Reads l y → x ≡ y
one_read (line.Meta c) x y h k = one_as meta_as one_meta c x y h k
one_read (line.Port c) x y h k = one_as port one_port c x y h k
one_read (line.Address c) x y h k = one_as address one_address c x y h k
one_read (line.Holder c) x y h k = one_as holder one_holder c x y h k
one_read (line.Volume c) x y h k = one_as volume one_volume c x y h k
one_read (line.Zoning c) x y h k = one_as (λ r. config_row (config.Zoning r)) one_zoning c x y h k
one_read (line.Active c) x y h k = one_as (λ r. config_row (config.Active r)) one_active c x y h k
one_read (line.Group c) x y h k = one_as (λ r. config_row (config.Group r)) one_group c x y h k
one_read (line.Part c) x y h k = one_as (λ r. config_row (config.Part r)) one_part c x y h k
one_read (line.Plan c) x y h k = one_as plan one_plan c x y h k
one_read (line.Approval c) x y h k = one_as approval one_approval c x y h k
one_read (line.Undo c) x y h k = one_as undo one_undo c x y h k
one_read (line.Path c) x y h k = one_as path one_path c x y h k

pub one_row : {A : Type 0} (l : TableLine A) (x y : AnyRow) → ShowsRow x l → ShowsRow y l → x ≡ y
one_row l x y h k = one_read l x y (reads x l h) (reads y l k)

-- ---- by the row

one_of : {L R M : Type 0} {of_table : L → M} {Shows : L → R → Type 0} → ((c d : L) (r : R) → Shows c r → Shows d r → c ≡ d) → (r : R) (l m : M) → IsLine of_table Shows r l → IsLine of_table Shows r m → l ≡ m
one_of {of_table = of_table} one r l m h k = h.is ∙ ap of_table (one h.columns k.columns r h.shows k.shows) ∙ sym k.is

pub one_line : {A : Type 0} (x : AnyRow) (l m : TableLine A) → ShowsRow x l → ShowsRow x m → l ≡ m
one_line (count (Schema n)) l m h k = one_of one_meta_line (meta.Schema n) l m h k
one_line (count (Revision n)) l m h k = one_of one_meta_line (meta.Revision n) l m h k
one_line (port r) l m h k = one_of one_port_line r l m h k
one_line (address r) l m h k = one_of one_address_line r l m h k
one_line (holder r) l m h k = one_of one_holder_line r l m h k
one_line (volume r) l m h k = one_of one_volume_line r l m h k
one_line (config_row (config.Setting r)) l m h k = one_of one_meta_line (meta.Setting r) l m h k
one_line (config_row (config.Zoning r)) l m h k = one_of one_zoning_line r l m h k
one_line (config_row (config.Active r)) l m h k = one_of one_active_line r l m h k
one_line (config_row (config.Group r)) l m h k = one_of one_group_line r l m h k
one_line (config_row (config.Part r)) l m h k = one_of one_part_line r l m h k
one_line (plan r) l m h k = one_of one_plan_line r l m h k
one_line (approval r) l m h k = one_of one_approval_line r l m h k
one_line (undo r) l m h k = one_of one_undo_line r l m h k
one_line (path r) l m h k = one_of one_path_line r l m h k
