use Rattle.std.proofs.Common.{ap, ◌∙◌}
use Rattle.std.specs.FinSet as set
use Rattle.fab_inventory.proofs.fab_names.OrderLaws.{name_total, name_exact}
use Rattle.fab_inventory.proofs.fab_lemmas.SeenSets.{set_insert}
use Rattle.fab_mapping_base.specs.Groups.{HostGroupRows}
use Rattle.fab_mapping_base.proofs.host_group.HostGroup.put_host.Goals as goal

pub returns-clause-ok : goal.returns-clause-ok
returns-clause-ok g c =
    let made = set_insert name_total name_exact c.self.inside.hosts c.insert.new.self c.args.host c.in_ok-insert.ensures.updates.0 in
    ◌∙◌ {A = HostGroupRows} (λ i. record { tenant = c.self.inside.tenant; hosts = made i }) (ap (λ (v : HostGroupRows). record v { hosts = set.insert v.hosts c.args.host }) c.self.view_is)
