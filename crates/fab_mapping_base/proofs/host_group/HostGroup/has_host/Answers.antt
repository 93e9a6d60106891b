use Rattle.std.proofs.Common.{sym, ap, ◌∙◌}
use Rattle.std.specs.FinSet as set
use Rattle.fab_inventory.proofs.fab_names.OrderLaws.{name_total}
use Rattle.fab_mapping_base.specs.Groups.{HostGroupRows}
use Rattle.fab_inventory.proofs.fab_lemmas.SeenSets.{contains_seen}
use Rattle.fab_mapping_base.proofs.host_group.HostGroup.has_host.Goals as goal

pub returns : goal.returns
returns g c = c.contains.ensures ∙ sym (contains_seen name_total c.self.inside.hosts c.args.host.now) ∙ ap (λ (v : HostGroupRows). set.contains v.hosts c.args.host.now) c.self.view_is
