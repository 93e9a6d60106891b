use Rattle.std.proofs.Common.{sym}
use Rattle.std.specs.FinMap as map
use Rattle.fab_mapping_base.specs.Groups.{StorageGroupRows}
use Rattle.fab_plans_rows.specs.Inner.Losses.{PartLacks}
use Rattle.fab_plans_rows.proofs.Firsts.{at_group}
use Rattle.fab_plans_rows.proofs.at_rows.lost_part_at.Goals as goal

pub returns-in-Some : goal.returns-in-Some
returns-in-Some g c =
    at_group (map.get c.args.mapping.now.groups) c.args.name.now (λ (g : StorageGroupRows). PartLacks c.args.inventory.now g c.args.part.now) c.in-Some.group.now c.lost_part.result (sym c.in-Some.ensures) c.lost_part.ensures
