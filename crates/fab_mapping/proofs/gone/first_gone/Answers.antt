use Rattle.std.specs.BTreeMap.{get}
use Rattle.fab_mapping_base.specs.fab_names.Orders.{name_cmp}
use Rattle.fab_mapping.proofs.Lacking.{hosts_there, groups_there}
use Rattle.fab_mapping.proofs.gone.first_gone.Goals as goal

pub returns-in-None : goal.returns-in-None
returns-in-None g c = (
  hosts_there c.args.inventory.now (get name_cmp c.args.host_groups.now) c.in_default.ensures,
  groups_there c.args.inventory.now (get name_cmp c.args.groups.now) c.in_default-least_array.ensures c.in_default-least_target.ensures c.in-None.ensures,
)
