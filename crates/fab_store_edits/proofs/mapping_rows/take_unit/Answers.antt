use Rattle.std.proofs.Common.{◌≡◌, Some, sym, ◌∙◌, subst, rules}
use Rattle.fab_store_rows.specs.declared.config_row.StoragePart.TheVariants as part
use Rattle.fab_store_edits.specs.Inner.MappingEdits.{TakesPart}
use Rattle.fab_store_edits.proofs.PartMoves.{unit_taken}
use Rattle.fab_store_edits.proofs.mapping_rows.take_unit.Goals as goal

pub returns-then-eq : goal.returns-then-eq
returns-then-eq g c =
    let is : c.unit.result ≡ Some c.args.volume.now = search rules in
    subst (TakesPart (part.Unit c.args.unit c.args.volume.now) c.args.group.now) (sym c.unmap.ensures) (unit_taken c.args.group.now c.args.unit c.args.volume.now (sym c.unit.ensures ∙ is))
