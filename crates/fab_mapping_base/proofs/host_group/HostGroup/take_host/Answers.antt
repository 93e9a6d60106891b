use Rattle.std.proofs.Common.{ap, ◌∙◌}
use Rattle.std.specs.FinSet as set
use Rattle.fab_inventory.proofs.fab_names.OrderLaws.{name_total, name_exact}
use Rattle.fab_inventory.proofs.fab_lemmas.SeenSets.{set_remove}
use Rattle.fab_mapping_base.specs.Groups.{HostGroupRows}
use Rattle.fab_mapping_base.proofs.host_group.HostGroup.take_host.Goals as goal

pub returns : goal.returns
returns g c =
    let made = set_remove name_total name_exact c.self.inside.hosts c.remove.new.self c.args.host.now c.remove.ensures.updates.0 in
    ◌∙◌ {A = HostGroupRows} (λ i. record { tenant = c.self.inside.tenant; hosts = made i }) (ap (λ (v : HostGroupRows). record v { hosts = set.remove v.hosts c.args.host.now }) c.self.view_is)
