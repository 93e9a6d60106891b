-- The rows that the lines of all tables show, put together.
use Rattle.std.proofs.Common.{◌≡◌, ◌⊎◌, inl, inr, ⊎_elim, List, Contains, Some, refl, sym, subst}
use Rattle.std.specs.List.{AllZip, filter_map}
use Rattle.fab_store_columns.specs.GroupLines.{ShowsGroup, ShowsPart}
use Rattle.fab_store_columns.specs.MetaLines.{MetaColumns, ShowsMeta}
use Rattle.fab_store_columns.specs.PlanLines.{ShowsPlan}
use Rattle.fab_store_columns.specs.InventoryLines.{ShowsPort, ShowsAddress, ShowsHolder, ShowsVolume}
use Rattle.fab_store_columns.specs.RecordLines.{ShowsApproval, ShowsPath}
use Rattle.fab_store_columns.specs.ZoningLines.{ShowsZoning, ShowsActive}
use Rattle.fab_store_columns.specs.declared.meta_lines.MetaRow.{MetaRow}
use Rattle.fab_store_columns.specs.declared.meta_lines.MetaRow.TheVariants as meta
use Rattle.fab_store_rows.specs.declared.config_row.ConfigRow.{ConfigRow}
use Rattle.fab_store_rows.specs.declared.config_row.ConfigRow.TheVariants as config
use Rattle.fab_store_rows.specs.declared.table_rows.CountRow.{CountRow}
use Rattle.fab_store_rows.specs.declared.table_rows.CountRow.TheVariants.{Schema, Revision}
use Rattle.fab_store_rows.specs.declared.table_rows.TableRows.{TableRows}
use Rattle.fab_store_tables.proofs.RowsAdded.{row_of_line, line_of_row, old_kept, row_added, line_added, in_picked, picked_in}
use Rattle.fab_store_tables.specs.Reading.{IsIn, HasRow, AreRowsOf, IsShownAs, AddsShown, AreConfigRowsOf, AreSettingsOf, count_in, setting_in}
use Rattle.fab_store_tables.specs.Rows.{AnyRow, count, port, address, holder, volume, config_row, plan, approval, undo, path, ShowsConfig, ShowsRow}
use Rattle.fab_store_tables.specs.declared.lines.TableLines.{TableLines}
use Rattle.fab_store_tables.specs.declared.stored_line.TableLine.{TableLine}
use Rattle.fab_store_tables.specs.declared.stored_line.TableLine.TheVariants as line
use Rattle.fab_store_tables.specs.UndoLines.{ShowsUndo}

-- ---- rows of a configuration

module _ (A : Type 0) (lines : TableLines) (settings r1 r2 r3 r4 : List ConfigRow)
    (z : AddsShown (IsShownAs ShowsZoning config.Zoning) lines.zoning.items settings r1)
    (a : AddsShown (IsShownAs ShowsActive config.Active) lines.active.items r1 r2)
    (g : AddsShown (IsShownAs ShowsGroup config.Group) lines.groups.items r2 r3)
    (p : AddsShown (IsShownAs ShowsPart config.Part) lines.parts.items r3 r4) where
  from_3 : (r : ConfigRow) → Contains r3 r → Contains r4 r
  from_3 = old_kept (IsShownAs ShowsPart config.Part) lines.parts.items r3 r4 p

  from_2 : (r : ConfigRow) → Contains r2 r → Contains r4 r
  from_2 r there = from_3 r (old_kept (IsShownAs ShowsGroup config.Group) lines.groups.items r2 r3 g r there)

  from_1 : (r : ConfigRow) → Contains r1 r → Contains r4 r
  from_1 r there = from_2 r (old_kept (IsShownAs ShowsActive config.Active) lines.active.items r1 r2 a r there)

  -- the line that shows a row, if it is none of the settings
  IsLined : ConfigRow → Type 0
  IsLined r = (l : TableLine A) × IsIn lines l × ShowsConfig r l

  by_1 : (r : ConfigRow) → Contains r1 r → Contains settings r ⊎ IsLined r
  unfolding IsLined
  by_1 r there = ⊎_elim inl (λ s. inr (line.Zoning s.0, s.1, subst (λ (x : ConfigRow). ShowsConfig {A = A} x (line.Zoning s.0)) (sym s.2.is) (record { columns = s.0; shows = s.2.shows; is = refl }))) (line_added (IsShownAs ShowsZoning config.Zoning) lines.zoning.items settings r1 z r there)

  by_2 : (r : ConfigRow) → Contains r2 r → Contains settings r ⊎ IsLined r
  unfolding IsLined
  by_2 r there = ⊎_elim (by_1 r) (λ s. inr (line.Active s.0, s.1, subst (λ (x : ConfigRow). ShowsConfig {A = A} x (line.Active s.0)) (sym s.2.is) (record { columns = s.0; shows = s.2.shows; is = refl }))) (line_added (IsShownAs ShowsActive config.Active) lines.active.items r1 r2 a r there)

  by_3 : (r : ConfigRow) → Contains r3 r → Contains settings r ⊎ IsLined r
  unfolding IsLined
  by_3 r there = ⊎_elim (by_2 r) (λ s. inr (line.Group s.0, s.1, subst (λ (x : ConfigRow). ShowsConfig {A = A} x (line.Group s.0)) (sym s.2.is) (record { columns = s.0; shows = s.2.shows; is = refl }))) (line_added (IsShownAs ShowsGroup config.Group) lines.groups.items r2 r3 g r there)

  by_4 : (r : ConfigRow) → Contains r4 r → Contains settings r ⊎ IsLined r
  unfolding IsLined
  by_4 r there = ⊎_elim (by_3 r) (λ s. inr (line.Part s.0, s.1, subst (λ (x : ConfigRow). ShowsConfig {A = A} x (line.Part s.0)) (sym s.2.is) (record { columns = s.0; shows = s.2.shows; is = refl }))) (line_added (IsShownAs ShowsPart config.Part) lines.parts.items r3 r4 p r there)

  pub config_read : AreConfigRowsOf A settings lines r4
  unfolding IsLined
  config_read = record {
    kept = λ r there. from_1 r (old_kept (IsShownAs ShowsZoning config.Zoning) lines.zoning.items settings r1 z r there);
    zoning = λ l there. let s = row_added (IsShownAs ShowsZoning config.Zoning) lines.zoning.items settings r1 z l there in (s.0, from_1 s.0 s.1, s.2);
    active = λ l there. let s = row_added (IsShownAs ShowsActive config.Active) lines.active.items r1 r2 a l there in (s.0, from_2 s.0 s.1, s.2);
    groups = λ l there. let s = row_added (IsShownAs ShowsGroup config.Group) lines.groups.items r2 r3 g l there in (s.0, from_3 s.0 s.1, s.2);
    parts = λ l there. row_added (IsShownAs ShowsPart config.Part) lines.parts.items r3 r4 p l there;
    every = by_4;
  }

-- ---- all rows

module _ {A : Type 0} (lines : TableLines) (rows : TableRows A) (settings : AreSettingsOf A lines rows.counts.items rows.config.items)
    (ports : AllZip ShowsPort lines.ports.items rows.ports.items) (addresses : AllZip ShowsAddress lines.addresses.items rows.addresses.items) (holders : AllZip ShowsHolder lines.holders.items rows.holders.items) (volumes : AllZip ShowsVolume lines.volumes.items rows.volumes.items)
    (plans : AllZip ShowsPlan lines.plans.items rows.plans.items) (approvals : AllZip ShowsApproval lines.approvals.items rows.approvals.items)
    (undos : AllZip ShowsUndo lines.undo.items rows.undo.items) (paths : AllZip ShowsPath lines.paths.items rows.paths.items) where
  read_config : AreConfigRowsOf A (filter_map setting_in settings.settings) lines rows.config.items
  read_config = settings.config_are

  -- the row of a line of settings
  count_row : (r : CountRow) (m : MetaRow) → Contains settings.settings m → count_in m ≡ Some r → Contains rows.counts.items r
  count_row r m there at = subst (λ xs. Contains xs r) (sym settings.counts_are) (picked_in count_in settings.settings m r there at)

  each_meta : (l : MetaColumns) (m : MetaRow) → Contains settings.settings m → ShowsMeta l m → (x : AnyRow) × HasRow rows x × ShowsRow {A = A} x (line.Meta l)
  each_meta l (meta.Schema n) there shows = (count (Schema n), count_row (Schema n) (meta.Schema n) there refl, record { columns = l; shows = shows; is = refl })
  each_meta l (meta.Revision n) there shows = (count (Revision n), count_row (Revision n) (meta.Revision n) there refl, record { columns = l; shows = shows; is = refl })
  each_meta l (meta.Setting r) there shows = (config_row (config.Setting r), read_config.kept (config.Setting r) (picked_in setting_in settings.settings (meta.Setting r) (config.Setting r) there refl), record { columns = l; shows = shows; is = refl })

  -- the row of a line of a table of a configuration
  each_config : (l : TableLine A) (r : ConfigRow) → Contains rows.config.items r → ShowsConfig r l → (x : AnyRow) × HasRow rows x × ShowsRow x l
  each_config l r there shows = (config_row r, there, shows)

  each : (l : TableLine A) → IsIn lines l → (x : AnyRow) × HasRow rows x × ShowsRow x l
  each (line.Meta l) there = let s = row_of_line ShowsMeta lines.meta.items settings.settings settings.shown l there in each_meta l s.0 s.1 s.2
  each (line.Port l) there = let s = row_of_line ShowsPort lines.ports.items rows.ports.items ports l there in (port s.0, s.1, record { columns = l; shows = s.2; is = refl })
  each (line.Address l) there = let s = row_of_line ShowsAddress lines.addresses.items rows.addresses.items addresses l there in (address s.0, s.1, record { columns = l; shows = s.2; is = refl })
  each (line.Holder l) there = let s = row_of_line ShowsHolder lines.holders.items rows.holders.items holders l there in (holder s.0, s.1, record { columns = l; shows = s.2; is = refl })
  each (line.Volume l) there = let s = row_of_line ShowsVolume lines.volumes.items rows.volumes.items volumes l there in (volume s.0, s.1, record { columns = l; shows = s.2; is = refl })
  each (line.Zoning l) there = let s = read_config.zoning l there in each_config (line.Zoning l) s.0 s.1 (subst (λ (x : ConfigRow). ShowsConfig {A = A} x (line.Zoning l)) (sym s.2.is) (record { columns = l; shows = s.2.shows; is = refl }))
  each (line.Active l) there = let s = read_config.active l there in each_config (line.Active l) s.0 s.1 (subst (λ (x : ConfigRow). ShowsConfig {A = A} x (line.Active l)) (sym s.2.is) (record { columns = l; shows = s.2.shows; is = refl }))
  each (line.Group l) there = let s = read_config.groups l there in each_config (line.Group l) s.0 s.1 (subst (λ (x : ConfigRow). ShowsConfig {A = A} x (line.Group l)) (sym s.2.is) (record { columns = l; shows = s.2.shows; is = refl }))
  each (line.Part l) there = let s = read_config.parts l there in each_config (line.Part l) s.0 s.1 (subst (λ (x : ConfigRow). ShowsConfig {A = A} x (line.Part l)) (sym s.2.is) (record { columns = l; shows = s.2.shows; is = refl }))
  each (line.Plan l) there = let s = row_of_line ShowsPlan lines.plans.items rows.plans.items plans l there in (plan s.0, s.1, record { columns = l; shows = s.2; is = refl })
  each (line.Approval l) there = let s = row_of_line ShowsApproval lines.approvals.items rows.approvals.items approvals l there in (approval s.0, s.1, record { columns = l; shows = s.2; is = refl })
  each (line.Undo l) there = let s = row_of_line ShowsUndo lines.undo.items rows.undo.items undos l there in (undo s.0, s.1, record { columns = l; shows = s.2; is = refl })
  each (line.Path l) there = let s = row_of_line ShowsPath lines.paths.items rows.paths.items paths l there in (path s.0, s.1, record { columns = l; shows = s.2; is = refl })

  -- the line of a setting
  meta_line : (m : MetaRow) → Contains settings.settings m → (l : MetaColumns) × Contains lines.meta.items l × ShowsMeta l m
  meta_line = line_of_row ShowsMeta lines.meta.items settings.settings settings.shown

  every_count : (r : CountRow) (m : MetaRow) → Contains settings.settings m → count_in m ≡ Some r → (l : TableLine A) × IsIn lines l × ShowsRow (count r) l
  every_count r (meta.Schema n) there at =
      let same : Schema n ≡ r = cc in
      let s = meta_line (meta.Schema n) there in
      (line.Meta s.0, s.1, subst (λ (x : CountRow). ShowsRow {A = A} (count x) (line.Meta s.0)) same (record { columns = s.0; shows = s.2; is = refl }))
  every_count r (meta.Revision n) there at =
      let same : Revision n ≡ r = cc in
      let s = meta_line (meta.Revision n) there in
      (line.Meta s.0, s.1, subst (λ (x : CountRow). ShowsRow {A = A} (count x) (line.Meta s.0)) same (record { columns = s.0; shows = s.2; is = refl }))
  every_count r (meta.Setting s) there at = absurd cc

  every_setting : (r : ConfigRow) (m : MetaRow) → Contains settings.settings m → setting_in m ≡ Some r → (l : TableLine A) × IsIn lines l × ShowsConfig r l
  every_setting r (meta.Schema n) there at = absurd cc
  every_setting r (meta.Revision n) there at = absurd cc
  every_setting r (meta.Setting t) there at =
      let same : config.Setting t ≡ r = cc in
      let s = meta_line (meta.Setting t) there in
      (line.Meta s.0, s.1, subst (λ (x : ConfigRow). ShowsConfig {A = A} x (line.Meta s.0)) same (record { columns = s.0; shows = s.2; is = refl }))

  every : (x : AnyRow) → HasRow rows x → (l : TableLine A) × IsIn lines l × ShowsRow x l
  every (count r) there = let s = in_picked count_in settings.settings r (subst (λ xs. Contains xs r) settings.counts_are there) in every_count r s.0 s.1 s.2
  every (port r) there = let s = line_of_row ShowsPort lines.ports.items rows.ports.items ports r there in (line.Port s.0, s.1, record { columns = s.0; shows = s.2; is = refl })
  every (address r) there = let s = line_of_row ShowsAddress lines.addresses.items rows.addresses.items addresses r there in (line.Address s.0, s.1, record { columns = s.0; shows = s.2; is = refl })
  every (holder r) there = let s = line_of_row ShowsHolder lines.holders.items rows.holders.items holders r there in (line.Holder s.0, s.1, record { columns = s.0; shows = s.2; is = refl })
  every (volume r) there = let s = line_of_row ShowsVolume lines.volumes.items rows.volumes.items volumes r there in (line.Volume s.0, s.1, record { columns = s.0; shows = s.2; is = refl })
  every (config_row r) there = ⊎_elim (λ h. let s = in_picked setting_in settings.settings r h in every_setting r s.0 s.1 s.2) (λ s. s) (read_config.every r there)
  every (plan r) there = let s = line_of_row ShowsPlan lines.plans.items rows.plans.items plans r there in (line.Plan s.0, s.1, record { columns = s.0; shows = s.2; is = refl })
  every (approval r) there = let s = line_of_row ShowsApproval lines.approvals.items rows.approvals.items approvals r there in (line.Approval s.0, s.1, record { columns = s.0; shows = s.2; is = refl })
  every (undo r) there = let s = line_of_row ShowsUndo lines.undo.items rows.undo.items undos r there in (line.Undo s.0, s.1, record { columns = s.0; shows = s.2; is = refl })
  every (path r) there = let s = line_of_row ShowsPath lines.paths.items rows.paths.items paths r there in (line.Path s.0, s.1, record { columns = s.0; shows = s.2; is = refl })

  pub rows_read : AreRowsOf lines rows
  rows_read = record { each = each; every = every; plans = plans }
