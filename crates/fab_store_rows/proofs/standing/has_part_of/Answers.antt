use Rattle.std.specs.FinMap as map
use Rattle.fab_store_rows.specs.Standing.{HasPart}
use Rattle.fab_store_rows.proofs.RowsFound.{found_has}
use Rattle.fab_store_rows.proofs.standing.has_part_of.Goals as goal

pub returns-in-Some : goal.returns-in-Some
returns-in-Some g c = found_has (HasPart c.args.part.now) (map.get c.args.mapping.now.groups c.args.name.now) c.in-Some.group.now c.has_storage_part.result c.in-Some.ensures c.has_storage_part.ensures
