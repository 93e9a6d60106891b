-- Lines of the tables of approvals and of paths, and the rows that they show.
use Rattle.std.specs.Prelude.{ℕ, ℤ, List}
use Rattle.fab_names.specs.Names.{SpellsName}
use Rattle.fab_names.specs.Fabrics.{SpellsFabric}
use Rattle.fab_names.specs.WorldWideNames.{SpellsPlain}
use Rattle.fab_mapping_base.specs.Limits.{last_unit}
use Rattle.fab_store_columns_base.specs.Limits.{most_number}
use Rattle.fab_store_rows.specs.declared.record_row.ApprovalRow.{ApprovalRow}
use Rattle.fab_store_rows.specs.declared.record_row.PathRow.{PathRow}
use Rattle.fab_store_columns_base.specs.Columns.{ShowsNumber}

-- `approvals`
pub record ApprovalColumns : Type 0 where
  pub plan : List ℕ
  pub caller : List ℕ
  pub revision : ℤ

pub record ShowsApproval (l : ApprovalColumns) (r : ApprovalRow) : Type 0 where
  pub plan : SpellsName l.plan r.plan
  pub caller : SpellsName l.caller r.caller
  pub revision : ShowsNumber 0 most_number l.revision r.revision

-- `paths`
pub record PathColumns : Type 0 where
  pub host : List ℕ
  pub fabric : List ℕ
  pub initiator : List ℕ
  pub target : List ℕ
  pub volume : List ℕ
  pub lun : ℤ

pub record ShowsPath (l : PathColumns) (r : PathRow) : Type 0 where
  pub host : SpellsName l.host r.host
  pub fabric : SpellsFabric l.fabric r.path.fabric
  pub initiator : SpellsPlain l.initiator r.path.initiator
  pub target : SpellsPlain l.target r.path.target
  pub volume : SpellsName l.volume r.path.volume
  pub lun : ShowsNumber 0 last_unit l.lun r.path.unit
