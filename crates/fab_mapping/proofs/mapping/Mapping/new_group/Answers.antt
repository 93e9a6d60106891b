use Rattle.std.proofs.Common.{◌≤◌, ◌<◌, is_some, refl, sym, ap, ◌∙◌, subst, arith}
use mathlib.Core.Bool.{true≢false}
use Rattle.std.specs.FinMap as map
use Rattle.fab_mapping_base.proofs.fab_names.OrderLaws.{name_total, name_exact}
use Rattle.fab_mapping_base.proofs.fab_lemmas.SeenMaps.{get_entries, len_entries, seen_insert}
use Rattle.fab_mapping_base.specs.Groups.{new_storage_group}
use Rattle.fab_mapping.specs.Mappings.{MappingRows}
use Rattle.fab_mapping.specs.Soundness.{Keeps}
use Rattle.fab_mapping.proofs.Keeping.{new_group_keeps}
use Rattle.fab_mapping.proofs.mapping.Mapping.new_group.Goals as goal

pub returns-then-contains_key-clause-err : goal.returns-then-contains_key-clause-err
returns-then-contains_key-clause-err g c = (refl, ap (λ (v : MappingRows). map.contains_key v.groups c.args.name) (sym c.self.view_is) ∙ ap is_some (get_entries name_total c.self.inside.groups.entries c.args.name) ∙ sym c.contains_key.ensures ∙ c.if-contains_key.true)

pub returns-then-not-is_array-clause-err : goal.returns-then-not-is_array-clause-err
returns-then-not-is_array-clause-err g c = (refl, ap (λ (v : MappingRows). map.contains_key v.groups c.args.name) (sym c.self.view_is) ∙ ap is_some (get_entries name_total c.self.inside.groups.entries c.args.name) ∙ sym c.contains_key.ensures ∙ c.if-contains_key.false, λ is. true≢false (sym (c.is_array.ensures.1 is) ∙ c.if-not-is_array.true))

pub returns-then-len-ge-MOST_STORAGE_GROUPS-clause-err : goal.returns-then-len-ge-MOST_STORAGE_GROUPS-clause-err
returns-then-len-ge-MOST_STORAGE_GROUPS-clause-err g c = (ap (λ (v : MappingRows). map.contains_key v.groups c.args.name) (sym c.self.view_is) ∙ ap is_some (get_entries name_total c.self.inside.groups.entries c.args.name) ∙ sym c.contains_key.ensures ∙ c.if-contains_key.false, c.is_array.ensures.0 c.if-not-is_array.false, subst (λ n. 2048 ≤ n) (sym (len_entries name_total c.self.inside.groups.entries c.len.ensures.ordered) ∙ ap (λ (v : MappingRows). map.len v.groups) c.self.view_is) (omega (arith, c.len.ensures.len)))

pub returns-clause-can : goal.returns-clause-can
returns-clause-can g c = record { fresh = ap (λ (v : MappingRows). map.contains_key v.groups c.args.name) (sym c.self.view_is) ∙ ap is_some (get_entries name_total c.self.inside.groups.entries c.args.name) ∙ sym c.contains_key.ensures ∙ c.if-contains_key.false; on_array = c.is_array.ensures.0 c.if-not-is_array.false; room = subst (λ n. n < 2048) (sym (len_entries name_total c.self.inside.groups.entries c.len.ensures.ordered) ∙ ap (λ (v : MappingRows). map.len v.groups) c.self.view_is) (omega (arith, c.len.ensures.len)) }

pub returns-clause-ok : goal.returns-clause-ok
returns-clause-ok g c = (λ i. record { host_groups = map.from_entries c.self.inside.host_groups.entries; groups = (seen_insert name_total name_exact c.self.inside.groups c.insert.new.self c.args.name c.new-group.result c.in_ok-insert.ensures.updates.0 ∙ ap (map.insert (map.from_entries c.self.inside.groups.entries) c.args.name) c.new-group.ensures) i }) ∙ ap (λ (v : MappingRows). record v { groups = map.insert v.groups c.args.name (new_storage_group c.args.tenant c.args.array) }) c.self.view_is

pub returns-clause-keeps : goal.returns-clause-keeps
returns-clause-keeps g c = subst (Keeps c.args.inventory.now c.args.self.now) (sym (returns-clause-ok g c)) (new_group_keeps c.args.self.now c.args.inventory.now c.args.name c.args.tenant c.args.array (returns-clause-can g c))
