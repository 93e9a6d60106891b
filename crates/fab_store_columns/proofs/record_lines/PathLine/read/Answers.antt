use Rattle.std.proofs.Common.{sym, subst}
use Rattle.fab_names.specs.Fabrics.{SpellsFabric}
use Rattle.fab_names.specs.Names.{SpellsName}
use Rattle.fab_names.specs.WorldWideNames.{SpellsPlain}
use Rattle.fab_mapping_base.specs.declared.limits.TheConstants.{LAST_UNIT}
use Rattle.fab_store_columns_base.specs.Columns.{ShowsNumber}
use Rattle.fab_store_columns.specs.RecordLines.{PathColumns}
use Rattle.fab_store_columns.proofs.record_lines.PathLine.read.Goals as goal

pub returns-in_default : goal.returns-in_default
returns-in_default g c r h = c.in_default.ensures r.path.volume (subst (λ t. SpellsName t r.path.volume) (sym c.as_str-5.ensures.value) (subst (λ (l : PathColumns). SpellsName l.volume r.path.volume) (sym c.self.view_is) h.volume))

pub returns-in_default-read_count : goal.returns-in_default-read_count
returns-in_default-read_count g c r h = c.in_default-read_count.ensures r.path.unit (subst (λ (l : PathColumns). ShowsNumber 0 LAST_UNIT l.lun r.path.unit) (sym c.self.view_is) h.lun)

pub returns-in_err-host : goal.returns-in_err-host
returns-in_err-host g c =
    rw c.from_residual.ensures (λ r h. c.in_err-host.ensures r.host (subst (λ t. SpellsName t r.host) (sym c.as_str.ensures.value) (subst (λ (l : PathColumns). SpellsName l.host r.host) (sym c.self.view_is) h.host)))

pub returns-in_err-fabric : goal.returns-in_err-fabric
returns-in_err-fabric g c =
    rw c.from_residual-in_err-fabric.ensures (λ r h. c.in_err-fabric.ensures r.path.fabric (subst (λ t. SpellsFabric t r.path.fabric) (sym c.as_str-2.ensures.value) (subst (λ (l : PathColumns). SpellsFabric l.fabric r.path.fabric) (sym c.self.view_is) h.fabric)))

pub returns-in_err-initiator : goal.returns-in_err-initiator
returns-in_err-initiator g c =
    rw c.from_residual-in_err-initiator.ensures (λ r h. c.in_err-initiator.ensures r.path.initiator (subst (λ t. SpellsPlain t r.path.initiator) (sym c.as_str-3.ensures.value) (subst (λ (l : PathColumns). SpellsPlain l.initiator r.path.initiator) (sym c.self.view_is) h.initiator)))

pub returns-in_err-target : goal.returns-in_err-target
returns-in_err-target g c =
    rw c.from_residual-in_err-target.ensures (λ r h. c.in_err-target.ensures r.path.target (subst (λ t. SpellsPlain t r.path.target) (sym c.as_str-4.ensures.value) (subst (λ (l : PathColumns). SpellsPlain l.target r.path.target) (sym c.self.view_is) h.target)))
