use Rattle.std.proofs.Common.{sym, ap, ◌∙◌}
use Rattle.std.specs.FinSet as set
use Rattle.fab_inventory.proofs.fab_names.OrderLaws.{name_total}
use Rattle.fab_mapping_base.specs.Groups.{StorageGroupRows}
use Rattle.fab_inventory.proofs.fab_lemmas.SeenSets.{contains_seen}
use Rattle.fab_mapping_base.proofs.storage_group.StorageGroup.has_hosts.Goals as goal

pub returns : goal.returns
returns g c = c.contains.ensures ∙ sym (contains_seen name_total c.self.inside.host_groups c.args.hosts.now) ∙ ap (λ (v : StorageGroupRows). set.contains v.host_groups c.args.hosts.now) c.self.view_is
