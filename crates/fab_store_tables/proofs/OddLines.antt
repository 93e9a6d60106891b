-- A line that shows no row of its table shows no row at all.
use Rattle.std.proofs.Common.{◌≡◌, List, Contains, refl, sym, subst}
use Rattle.fab_store_columns.specs.GroupLines.{GroupColumns, ShowsGroup, PartColumns, ShowsPart}
use Rattle.fab_store_columns.specs.InventoryLines.{PortColumns, ShowsPort, AddressColumns, ShowsAddress, HolderColumns, ShowsHolder, VolumeColumns, ShowsVolume}
use Rattle.fab_store_columns.specs.MetaLines.{MetaColumns, ShowsMeta}
use Rattle.fab_store_columns.specs.PlanLines.{PlanColumns, ShowsPlan}
use Rattle.fab_store_columns.specs.RecordLines.{ApprovalColumns, ShowsApproval, PathColumns, ShowsPath}
use Rattle.fab_store_columns.specs.ZoningLines.{ZoningColumns, ShowsZoning, ActiveColumns, ShowsActive}
use Rattle.fab_store_load.specs.Faults.{OfTable}
use Rattle.fab_store_load.specs.declared.fault.LoadFault.{LoadFault}
use Rattle.fab_store_load.specs.declared.fault.LoadFault.TheVariants.{Damaged, Memory}
use Rattle.fab_store_load.specs.declared.fault.Table.{Table}
use Rattle.fab_store_load.specs.declared.fault.Table.TheVariants as table
use Rattle.fab_store_rows.specs.declared.config_row.ConfigRow.TheVariants as config
use Rattle.fab_store_tables.proofs.OneRow.{reads}
use Rattle.fab_store_tables.specs.Reading.{HasOddLine, IsOddAt, IsShownAs}
use Rattle.fab_store_tables.specs.declared.lines.TableLines.{TableLines}
use Rattle.fab_store_tables.specs.declared.stored_line.TableLine.TheVariants as line
use Rattle.fab_store_tables.specs.UndoLines.{UndoColumns, ShowsUndo}

-- what follows of the table that a fault names
of_table : (P Q : Table → Type 0) → ((t : Table) → P t → Q t) → (fault : LoadFault) → OfTable P fault → OfTable Q fault
of_table P Q follows (Damaged t) p = follows t p
of_table P Q follows Memory p = tt

module _ (A : Type 0) (lines : TableLines) where
  pub odd_meta : (ls : List MetaColumns) → ls ≡ lines.meta.items → (fault : LoadFault) → OfTable (IsOddAt ShowsMeta ls table.Meta) fault → OfTable (HasOddLine A lines) fault
  odd_meta ls same = of_table (IsOddAt ShowsMeta ls table.Meta) (HasOddLine A lines) (λ t h. (line.Meta h.1.0, subst (λ xs. Contains xs h.1.0) same h.1.1, sym h.0, λ x shows. let s = reads {A = A} x (line.Meta h.1.0) shows in h.1.2 s.row s.shows))

  pub odd_port : (ls : List PortColumns) → ls ≡ lines.ports.items → (fault : LoadFault) → OfTable (IsOddAt ShowsPort ls table.Ports) fault → OfTable (HasOddLine A lines) fault
  odd_port ls same = of_table (IsOddAt ShowsPort ls table.Ports) (HasOddLine A lines) (λ t h. (line.Port h.1.0, subst (λ xs. Contains xs h.1.0) same h.1.1, sym h.0, λ x shows. let s = reads {A = A} x (line.Port h.1.0) shows in h.1.2 s.row s.shows))

  pub odd_address : (ls : List AddressColumns) → ls ≡ lines.addresses.items → (fault : LoadFault) → OfTable (IsOddAt ShowsAddress ls table.Addresses) fault → OfTable (HasOddLine A lines) fault
  odd_address ls same = of_table (IsOddAt ShowsAddress ls table.Addresses) (HasOddLine A lines) (λ t h. (line.Address h.1.0, subst (λ xs. Contains xs h.1.0) same h.1.1, sym h.0, λ x shows. let s = reads {A = A} x (line.Address h.1.0) shows in h.1.2 s.row s.shows))

  pub odd_holder : (ls : List HolderColumns) → ls ≡ lines.holders.items → (fault : LoadFault) → OfTable (IsOddAt ShowsHolder ls table.Holders) fault → OfTable (HasOddLine A lines) fault
  odd_holder ls same = of_table (IsOddAt ShowsHolder ls table.Holders) (HasOddLine A lines) (λ t h. (line.Holder h.1.0, subst (λ xs. Contains xs h.1.0) same h.1.1, sym h.0, λ x shows. let s = reads {A = A} x (line.Holder h.1.0) shows in h.1.2 s.row s.shows))

  pub odd_volume : (ls : List VolumeColumns) → ls ≡ lines.volumes.items → (fault : LoadFault) → OfTable (IsOddAt ShowsVolume ls table.Volumes) fault → OfTable (HasOddLine A lines) fault
  odd_volume ls same = of_table (IsOddAt ShowsVolume ls table.Volumes) (HasOddLine A lines) (λ t h. (line.Volume h.1.0, subst (λ xs. Contains xs h.1.0) same h.1.1, sym h.0, λ x shows. let s = reads {A = A} x (line.Volume h.1.0) shows in h.1.2 s.row s.shows))

  pub odd_zoning : (ls : List ZoningColumns) → ls ≡ lines.zoning.items → (fault : LoadFault) → OfTable (IsOddAt (IsShownAs ShowsZoning config.Zoning) ls table.Zoning) fault → OfTable (HasOddLine A lines) fault
  odd_zoning ls same = of_table (IsOddAt (IsShownAs ShowsZoning config.Zoning) ls table.Zoning) (HasOddLine A lines) (λ t h. (line.Zoning h.1.0, subst (λ xs. Contains xs h.1.0) same h.1.1, sym h.0, λ x shows. let s = reads {A = A} x (line.Zoning h.1.0) shows in h.1.2 (config.Zoning s.row) (record { row = s.row; shows = s.shows; is = refl })))

  pub odd_active : (ls : List ActiveColumns) → ls ≡ lines.active.items → (fault : LoadFault) → OfTable (IsOddAt (IsShownAs ShowsActive config.Active) ls table.Active) fault → OfTable (HasOddLine A lines) fault
  odd_active ls same = of_table (IsOddAt (IsShownAs ShowsActive config.Active) ls table.Active) (HasOddLine A lines) (λ t h. (line.Active h.1.0, subst (λ xs. Contains xs h.1.0) same h.1.1, sym h.0, λ x shows. let s = reads {A = A} x (line.Active h.1.0) shows in h.1.2 (config.Active s.row) (record { row = s.row; shows = s.shows; is = refl })))

  pub odd_group : (ls : List GroupColumns) → ls ≡ lines.groups.items → (fault : LoadFault) → OfTable (IsOddAt (IsShownAs ShowsGroup config.Group) ls table.Groups) fault → OfTable (HasOddLine A lines) fault
  odd_group ls same = of_table (IsOddAt (IsShownAs ShowsGroup config.Group) ls table.Groups) (HasOddLine A lines) (λ t h. (line.Group h.1.0, subst (λ xs. Contains xs h.1.0) same h.1.1, sym h.0, λ x shows. let s = reads {A = A} x (line.Group h.1.0) shows in h.1.2 (config.Group s.row) (record { row = s.row; shows = s.shows; is = refl })))

  pub odd_part : (ls : List PartColumns) → ls ≡ lines.parts.items → (fault : LoadFault) → OfTable (IsOddAt (IsShownAs ShowsPart config.Part) ls table.GroupParts) fault → OfTable (HasOddLine A lines) fault
  odd_part ls same = of_table (IsOddAt (IsShownAs ShowsPart config.Part) ls table.GroupParts) (HasOddLine A lines) (λ t h. (line.Part h.1.0, subst (λ xs. Contains xs h.1.0) same h.1.1, sym h.0, λ x shows. let s = reads {A = A} x (line.Part h.1.0) shows in h.1.2 (config.Part s.row) (record { row = s.row; shows = s.shows; is = refl })))

  pub odd_plan : (ls : List PlanColumns) → ls ≡ lines.plans.items → (fault : LoadFault) → OfTable (IsOddAt ShowsPlan ls table.Plans) fault → OfTable (HasOddLine A lines) fault
  odd_plan ls same = of_table (IsOddAt ShowsPlan ls table.Plans) (HasOddLine A lines) (λ t h. (line.Plan h.1.0, subst (λ xs. Contains xs h.1.0) same h.1.1, sym h.0, λ x shows. let s = reads {A = A} x (line.Plan h.1.0) shows in h.1.2 s.row s.shows))

  pub odd_approval : (ls : List ApprovalColumns) → ls ≡ lines.approvals.items → (fault : LoadFault) → OfTable (IsOddAt ShowsApproval ls table.Approvals) fault → OfTable (HasOddLine A lines) fault
  odd_approval ls same = of_table (IsOddAt ShowsApproval ls table.Approvals) (HasOddLine A lines) (λ t h. (line.Approval h.1.0, subst (λ xs. Contains xs h.1.0) same h.1.1, sym h.0, λ x shows. let s = reads {A = A} x (line.Approval h.1.0) shows in h.1.2 s.row s.shows))

  pub odd_undo : (ls : List UndoColumns) → ls ≡ lines.undo.items → (fault : LoadFault) → OfTable (IsOddAt ShowsUndo ls table.Undo) fault → OfTable (HasOddLine A lines) fault
  odd_undo ls same = of_table (IsOddAt ShowsUndo ls table.Undo) (HasOddLine A lines) (λ t h. (line.Undo h.1.0, subst (λ xs. Contains xs h.1.0) same h.1.1, sym h.0, λ x shows. let s = reads {A = A} x (line.Undo h.1.0) shows in h.1.2 s.row s.shows))

  pub odd_path : (ls : List PathColumns) → ls ≡ lines.paths.items → (fault : LoadFault) → OfTable (IsOddAt ShowsPath ls table.Paths) fault → OfTable (HasOddLine A lines) fault
  odd_path ls same = of_table (IsOddAt ShowsPath ls table.Paths) (HasOddLine A lines) (λ t h. (line.Path h.1.0, subst (λ xs. Contains xs h.1.0) same h.1.1, sym h.0, λ x shows. let s = reads {A = A} x (line.Path h.1.0) shows in h.1.2 s.row s.shows))
