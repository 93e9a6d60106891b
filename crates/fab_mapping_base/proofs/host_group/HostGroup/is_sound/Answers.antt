use Rattle.std.proofs.Common.{sym, ap, ◌∙◌, arith}
use Rattle.std.specs.FinSet as set
use Rattle.fab_inventory.proofs.fab_names.OrderLaws.{name_total}
use Rattle.fab_inventory.proofs.fab_lemmas.SeenSets.{len_seen}
use Rattle.fab_mapping_base.specs.Groups.{HostGroupRows}
use Rattle.fab_mapping_base.proofs.Sounding.{sound_hosts, no_hosts}
use Rattle.fab_mapping_base.proofs.host_group.HostGroup.is_sound.Goals as goal

pub returns-then-count-gt0 : goal.returns-then-count-gt0
returns-then-count-gt0 g c =
    sound_hosts c.args.self.now c.len-count.result (c.len-count.ensures.len ∙ sym (len_seen name_total c.self.inside.hosts.keys c.len-count.ensures.ordered) ∙ ap (λ (v : HostGroupRows). set.len v.hosts) c.self.view_is) (omega arith)

pub returns-else-count-gt0 : goal.returns-else-count-gt0
returns-else-count-gt0 g c =
    no_hosts c.args.self.now c.len-count.result (c.len-count.ensures.len ∙ sym (len_seen name_total c.self.inside.hosts.keys c.len-count.ensures.ordered) ∙ ap (λ (v : HostGroupRows). set.len v.hosts) c.self.view_is) (omega arith)
