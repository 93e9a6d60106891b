use Rattle.std.proofs.Common.{is_some, refl, sym, ap, ◌∙◌, subst}
use Rattle.std.specs.FinMap as map
use Rattle.fab_mapping_base.proofs.fab_names.OrderLaws.{name_total}
use Rattle.fab_mapping_base.proofs.fab_lemmas.SeenMaps.{get_entries, same_look_ups}
use Rattle.fab_mapping.specs.Mappings.{MappingRows, IsUnservedIn, IsLeastServing}
use Rattle.fab_mapping.proofs.mapping.Mapping.drop_host_group.Goals as goal

pub returns-then-not-contains_key-clause-err : goal.returns-then-not-contains_key-clause-err
returns-then-not-contains_key-clause-err g c = (refl, ap (λ (v : MappingRows). map.contains_key v.host_groups c.args.name.now) (sym c.self.view_is) ∙ ap is_some (get_entries name_total c.self.inside.host_groups.entries c.args.name.now) ∙ sym c.contains_key.ensures ∙ c.if-not-contains_key.true)

pub returns-in-Some-clause-err : goal.returns-in-Some-clause-err
returns-in-Some-clause-err g c = (refl, ap (λ (v : MappingRows). map.contains_key v.host_groups c.args.name.now) (sym c.self.view_is) ∙ ap is_some (get_entries name_total c.self.inside.host_groups.entries c.args.name.now) ∙ sym c.contains_key.ensures ∙ c.if-not-contains_key.false, subst (λ f. IsLeastServing f c.args.name.now c.in-Some.group.now) (same_look_ups name_total c.self.inside.groups c.args.self.now.groups (ap (λ (v : MappingRows). v.groups) c.self.view_is)) c.in-Some.ensures)

pub returns-clause-known : goal.returns-clause-known
returns-clause-known g c = ap (λ (v : MappingRows). map.contains_key v.host_groups c.args.name.now) (sym c.self.view_is) ∙ ap is_some (get_entries name_total c.self.inside.host_groups.entries c.args.name.now) ∙ sym c.contains_key.ensures ∙ c.if-not-contains_key.false

pub returns-clause-unused : goal.returns-clause-unused
returns-clause-unused g c = subst (λ f. IsUnservedIn f c.args.name.now) (same_look_ups name_total c.self.inside.groups c.args.self.now.groups (ap (λ (v : MappingRows). v.groups) c.self.view_is)) c.in_default.ensures
