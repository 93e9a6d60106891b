use Rattle.fab_inventory.proofs.fab_names.OrderLaws.{name_total, name_exact}
use Rattle.fab_inventory.proofs.fab_lemmas.SeenSets.{set_remove}
use Rattle.fab_mapping_base.proofs.GroupParts.{hosts_gone}
use Rattle.fab_mapping_base.proofs.storage_group.StorageGroup.remove_hosts.Goals as goal

pub returns : goal.returns
returns g c = hosts_gone _ _ _ c.args.hosts.now c.self.view_is (set_remove name_total name_exact c.self.inside.host_groups c.remove.new.self c.args.hosts.now c.remove.ensures.updates.0)
