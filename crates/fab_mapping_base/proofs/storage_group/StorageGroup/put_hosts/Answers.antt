use Rattle.fab_inventory.proofs.fab_names.OrderLaws.{name_total, name_exact}
use Rattle.fab_inventory.proofs.fab_lemmas.SeenSets.{set_insert}
use Rattle.fab_mapping_base.proofs.GroupParts.{hosts_put}
use Rattle.fab_mapping_base.proofs.storage_group.StorageGroup.put_hosts.Goals as goal

pub returns-clause-ok : goal.returns-clause-ok
returns-clause-ok g c = hosts_put _ _ _ c.args.group c.self.view_is (set_insert name_total name_exact c.self.inside.host_groups c.insert.new.self c.args.group c.in_ok-insert.ensures.updates.0)
