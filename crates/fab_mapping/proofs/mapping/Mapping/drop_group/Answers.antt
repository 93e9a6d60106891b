use Rattle.std.proofs.Common.{None, is_some, refl, sym, ap, ◌∙◌}
use Rattle.std.specs.FinMap as map
use Rattle.fab_mapping_base.proofs.fab_names.OrderLaws.{name_total}
use Rattle.fab_mapping_base.proofs.fab_lemmas.SeenMaps.{get_entries}
use Rattle.fab_mapping.specs.Mappings.{MappingRows}
use Rattle.fab_mapping.proofs.GroupChanges.{group_seen}
use Rattle.fab_mapping.proofs.mapping.Mapping.drop_group.Goals as goal
use Rattle.fab_mapping_base.proofs.fab_lemmas.Tests.{none_from_test as nothing}

pub returns-then-not-contains_key-clause-err : goal.returns-then-not-contains_key-clause-err
returns-then-not-contains_key-clause-err g c = (refl, group_seen c.self.inside.groups c.args.self.now c.args.name.now None (ap (λ (v : MappingRows). v.groups) c.self.view_is) (nothing _ (sym c.contains_key.ensures ∙ c.if-not-contains_key.true)))

pub returns-clause-known : goal.returns-clause-known
returns-clause-known g c = ap (λ (v : MappingRows). map.contains_key v.groups c.args.name.now) (sym c.self.view_is) ∙ ap is_some (get_entries name_total c.self.inside.groups.entries c.args.name.now) ∙ sym c.contains_key.ensures ∙ c.if-not-contains_key.false
