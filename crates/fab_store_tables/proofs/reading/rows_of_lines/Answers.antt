use Rattle.std.proofs.Common.{subst, sym}
use Rattle.std.specs.List.{AllZip}
use Rattle.fab_store_columns.specs.MetaLines.{ShowsMeta}
use Rattle.fab_store_tables.proofs.RowsRead.{rows_read}
use Rattle.fab_store_tables.proofs.reading.rows_of_lines.Goals as goal

pub returns-clause-ok : goal.returns-clause-ok
returns-clause-ok g c =
    let settings = c.in-Ok-settings_of.ensures.ok (subst (λ ms. AllZip ShowsMeta c.args.lines.now.meta.items ms) (sym c.as_slice.ensures.value) c.in-Ok.ensures.ok) in
    let inventory = c.in-Ok-inventory_of.ensures.ok in
    let records = c.in-Ok-records_of.ensures.ok in
    rows_read c.args.lines.now _ settings inventory.ports inventory.addresses inventory.holders inventory.volumes records.plans records.approvals records.undo records.paths
