use Rattle.std.proofs.Common.{sym, subst}
use Rattle.fab_store_rows.specs.declared.config_row.StoragePart.TheVariants as part
use Rattle.fab_store_edits.specs.Inner.MappingEdits.{PutsPart}
use Rattle.fab_store_edits.proofs.PartMoves.{unit_put}
use Rattle.fab_store_edits.proofs.mapping_rows.put_unit.Goals as goal

pub returns-in_ok-put_unit-in-None-clause-put : goal.returns-in_ok-put_unit-in-None-clause-put
returns-in_ok-put_unit-in-None-clause-put g c e =
    subst (PutsPart (part.Unit c.args.unit c.args.volume.now) c.args.group.now) (sym c.in_ok-put_unit-in-None.ensures.ok) (unit_put c.args.group.now c.args.unit c.args.volume.now (sym c.in-None.ensures))
