use Rattle.std.proofs.Common.{ap, length, arith}
use Rattle.std.proofs.lemmas.List.{length-map}
use Rattle.fab_plans_base.specs.Values.{of_name}
use Rattle.fab_plans_base.specs.Steps.{host_group_put}
use Rattle.fab_plans_text.proofs.Measures.{words_taken}
use Rattle.fab_plans_text.proofs.measure.mapping_len.Goals as goal

pub names_len-requires : goal.names_len-requires
names_len-requires g c =
    let taken = words_taken (host_group_put c.in-HostGroupPut.name c.in-HostGroupPut.tenant c.in-HostGroupPut.hosts.items) (rw c.in-HostGroupPut.is at c.requires) in
    omega (arith, taken.1, length-map c.in-HostGroupPut.hosts.items of_name, ap length c.deref.ensures.value)
