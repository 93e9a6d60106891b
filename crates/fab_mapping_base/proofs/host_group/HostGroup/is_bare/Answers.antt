use Rattle.std.proofs.Common.{sym, ap, ◌∙◌}
use Rattle.std.specs.FinSet as set
use Rattle.fab_inventory.proofs.fab_names.OrderLaws.{name_total}
use Rattle.fab_mapping_base.specs.Groups.{HostGroupRows}
use Rattle.fab_mapping_base.proofs.Bares.{bare_set, set_bare}
use Rattle.fab_mapping_base.proofs.host_group.HostGroup.is_bare.Goals as goal

pub returns : goal.returns
returns g c = (
  λ is host. ap (λ (v : HostGroupRows). set.contains v.hosts host) (sym c.self.view_is) ∙ bare_set name_total c.self.inside.hosts.keys (c.is_empty.ensures.0 is) host,
  λ none. c.is_empty.ensures.1 (set_bare name_total c.self.inside.hosts.keys (λ host. ap (λ (v : HostGroupRows). set.contains v.hosts host) c.self.view_is ∙ none host)),
)
