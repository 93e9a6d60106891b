use Rattle.std.proofs.Common.{ap, length, arith, inl, inr}
use Rattle.std.proofs.lemmas.Grind.{common_steps}
use Rattle.std.proofs.lemmas.List.{length-map}
use Rattle.fab_plans_base.specs.Values.{of_name, of_member, of_port_member}
use Rattle.fab_plans_base.specs.Steps.{alias_put, zone_put, set_put}
use Rattle.fab_plans_text.proofs.Measures.{words_taken}
use Rattle.fab_plans_text.proofs.Printing.{printed_members}
use Rattle.fab_plans_text.proofs.measure.zoning_len.Goals as goal

pub names_len-requires : goal.names_len-requires
names_len-requires g c =
    let taken = words_taken (set_put c.in-SetPut.fabric c.in-SetPut.name c.in-SetPut.zones.items) (rw c.in-SetPut.is at c.requires) in
    omega (arith, taken.1, length-map c.in-SetPut.zones.items of_name, ap length c.deref.ensures.value)

pub members_len-requires : goal.members_len-requires
members_len-requires g c = elim c.in-AliasPut.is [
  | inl is ↦ let taken = words_taken (alias_put c.in-AliasPut.fabric c.in-AliasPut.name c.in-AliasPut.members.items) (rw is at c.requires) in omega (arith, taken.1, length-map c.in-AliasPut.members.items of_port_member, ap length c.deref-in-AliasPut.ensures.value)
  | inr is ↦ let taken = words_taken (zone_put c.in-AliasPut.fabric c.in-AliasPut.name c.in-AliasPut.members.items) (rw is at c.requires) in omega (arith, taken.1, length-map c.in-AliasPut.members.items of_member, ap length c.deref-in-AliasPut.ensures.value)
]

pub returns-in-AliasPut-clause-length : goal.returns-in-AliasPut-clause-length
returns-in-AliasPut-clause-length g c = grind (arith, common_steps, printed_members c.in-AliasPut.members.items)
