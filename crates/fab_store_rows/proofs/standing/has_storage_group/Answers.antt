use Rattle.std.specs.FinMap as map
use Rattle.fab_store_rows.specs.Standing.{IsStorageHead}
use Rattle.fab_store_rows.proofs.RowsFound.{found_has}
use Rattle.fab_store_rows.proofs.standing.has_storage_group.Goals as goal

pub returns-in-Some : goal.returns-in-Some
returns-in-Some g c = found_has (IsStorageHead c.args.row.now) (map.get c.args.mapping.now.groups c.args.row.now.name) c.in-Some.group.now c.is_headed.result c.in-Some.ensures c.is_headed.ensures
