use Rattle.fab_inventory.proofs.fab_names.OrderLaws.{name_total, name_exact}
use Rattle.fab_inventory.proofs.fab_lemmas.SeenSets.{set_of_list}
use Rattle.fab_mapping_base.proofs.host_group.HostGroup.new.Goals as goal

pub returns : goal.returns
returns g c = λ i. record { tenant = c.args.tenant; hosts = set_of_list name_total name_exact c.in_ok-set_of.field-0 c.args.hosts.now c.in_ok-set_of.ensures i }
