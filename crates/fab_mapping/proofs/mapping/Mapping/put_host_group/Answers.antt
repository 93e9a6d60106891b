use Rattle.std.proofs.Common.{sym, ap, ◌∙◌, subst, arith}
use Rattle.std.specs.FinMap as map
use Rattle.fab_mapping_base.specs.fab_lemmas.Room.{HasRoom}
use Rattle.fab_mapping_base.proofs.fab_lemmas.SeenMaps.{seen_insert}
use Rattle.fab_mapping_base.proofs.fab_names.OrderLaws.{name_total, name_exact}
use Rattle.fab_mapping_base.specs.declared.limits.TheConstants.{MOST_HOST_GROUPS}
use Rattle.fab_mapping_base.specs.Groups.{host_group_of}
use Rattle.fab_mapping.specs.Mappings.{MappingRows}
use Rattle.fab_mapping.specs.Soundness.{Keeps}
use Rattle.fab_mapping.proofs.Keeping.{put_host_group_keeps}
use Rattle.fab_mapping.proofs.mapping.Mapping.put_host_group.Goals as goal

pub returns-clause-can : goal.returns-clause-can
returns-clause-can g c = record {
  few = omega arith;
  known = c.in_default.ensures;
  room = subst (λ (v : MappingRows). HasRoom v.host_groups c.args.name MOST_HOST_GROUPS) c.self.view_is c.if-is_full.ensures.room;
}

pub returns-clause-ok : goal.returns-clause-ok
returns-clause-ok g c = (λ i. record { host_groups = (seen_insert name_total name_exact c.self.inside.host_groups c.insert.new.self c.args.name c.in_ok-group.group c.in_ok-insert.ensures.updates.0 ∙ ap (map.insert (map.from_entries c.self.inside.host_groups.entries) c.args.name) c.in_ok-group.ensures) i; groups = map.from_entries c.self.inside.groups.entries }) ∙ ap (λ (v : MappingRows). record v { host_groups = map.insert v.host_groups c.args.name (host_group_of c.args.tenant c.args.hosts.now) }) c.self.view_is

pub returns-clause-keeps : goal.returns-clause-keeps
returns-clause-keeps g c =
    subst (Keeps c.args.inventory.now c.args.self.now) (sym (returns-clause-ok g c)) (put_host_group_keeps c.args.self.now c.args.inventory.now c.args.name c.args.tenant c.args.hosts.now c.requires.some (returns-clause-can g c))
