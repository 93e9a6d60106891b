use Rattle.std.proofs.Common.{Some, None, is_some, inl, inr, refl, sym, ap, ◌∙◌}
use Rattle.std.specs.FinMap as map
use Rattle.fab_mapping_base.proofs.fab_names.OrderLaws.{name_total}
use Rattle.fab_mapping_base.proofs.fab_lemmas.SeenMaps.{get_entries}
use Rattle.fab_mapping_base.specs.Groups.{with_hosts}
use Rattle.fab_mapping.specs.Mappings.{MappingRows}
use Rattle.fab_mapping.proofs.GroupChanges.{on_three, group_seen, changed, kept, on_ok, on_err, if_err, always_ok, add_hosts_fails}
use Rattle.fab_mapping.proofs.Keeping.{change_keeps, of_group, hosts_put, hosts_put_fits}
use Rattle.fab_mapping.proofs.mapping.Mapping.add_hosts.Goals as goal

pub returns-in_default-clause-err : goal.returns-in_default-clause-err
returns-in_default-clause-err g c = inl (refl, group_seen c.self.inside.groups c.args.self.now c.args.name.now None (ap (λ (v : MappingRows). v.groups) c.self.view_is) (sym c.in_default.ensures.value))

pub returns-then-not-known-clause-err : goal.returns-then-not-known-clause-err
returns-then-not-known-clause-err g c = inr (refl, (c.in-Some.group.now, group_seen c.self.inside.groups c.args.self.now c.args.name.now (Some c.in-Some.group.now) (ap (λ (v : MappingRows). v.groups) c.self.view_is) (sym c.in-Some.ensures.value), (ap (λ (v : MappingRows). map.contains_key v.host_groups c.args.hosts.now) (sym c.self.view_is) ∙ ap is_some (get_entries name_total c.self.inside.host_groups.entries c.args.hosts.now) ∙ sym c.contains_key-known.ensures ∙ c.if-not-known.true)))

pub returns-then-not-known-clause-unchanged : goal.returns-then-not-known-clause-unchanged
returns-then-not-known-clause-unchanged g c = kept c.self.inside.host_groups c.self.inside.groups (c.get_mut.follows.lender c.in-Some.group.now) c.args.name.now c.in-Some.group.now c.in-Some.group.now c.args.self.now c.self.view_is (sym c.in-Some.ensures.value) refl (c.get_mut.follows.holds c.in-Some.group.now).0

pub returns-clause-known : goal.returns-clause-known
returns-clause-known g c = always_ok c.add_hosts.result (ap (λ (v : MappingRows). map.contains_key v.host_groups c.args.hosts.now) (sym c.self.view_is) ∙ ap is_some (get_entries name_total c.self.inside.host_groups.entries c.args.hosts.now) ∙ sym c.contains_key-known.ensures ∙ c.if-not-known.false)

pub returns-clause-room : goal.returns-clause-room
returns-clause-room g c = on_ok c.add_hosts.result c.add_hosts.ensures.room (λ room. (c.in-Some.group.now, group_seen c.self.inside.groups c.args.self.now c.args.name.now (Some c.in-Some.group.now) (ap (λ (v : MappingRows). v.groups) c.self.view_is) (sym c.in-Some.ensures.value), room))

pub returns-clause-ok : goal.returns-clause-ok
returns-clause-ok g c = on_ok c.add_hosts.result c.add_hosts.ensures.ok (λ is. changed c.self.inside.host_groups c.self.inside.groups (c.get_mut.follows.lender c.add_hosts.new.self) c.args.name.now c.in-Some.group.now c.add_hosts.new.self (with_hosts c.args.hosts.now) c.args.self.now c.self.view_is (sym c.in-Some.ensures.value) is ((c.get_mut.follows.holds c.add_hosts.new.self).3 (ap is_some (sym c.in-Some.ensures.value))).0)

pub returns-clause-err : goal.returns-clause-err
returns-clause-err g c = if_err c.add_hosts.result c.add_hosts.ensures.err (add_hosts_fails c.args.self.now c.args.name.now c.args.hosts.now c.in-Some.group.now (group_seen c.self.inside.groups c.args.self.now c.args.name.now (Some c.in-Some.group.now) (ap (λ (v : MappingRows). v.groups) c.self.view_is) (sym c.in-Some.ensures.value)) (ap (λ (v : MappingRows). map.contains_key v.host_groups c.args.hosts.now) (sym c.self.view_is) ∙ ap is_some (get_entries name_total c.self.inside.host_groups.entries c.args.hosts.now) ∙ sym c.contains_key-known.ensures ∙ c.if-not-known.false))

pub returns-clause-unchanged : goal.returns-clause-unchanged
returns-clause-unchanged g c = on_err c.add_hosts.result c.add_hosts.ensures.unchanged (λ is. kept c.self.inside.host_groups c.self.inside.groups (c.get_mut.follows.lender c.add_hosts.new.self) c.args.name.now c.in-Some.group.now c.add_hosts.new.self c.args.self.now c.self.view_is (sym c.in-Some.ensures.value) is (c.get_mut.follows.holds c.add_hosts.new.self).0)

pub returns-clause-keeps : goal.returns-clause-keeps
returns-clause-keeps g c =
    on_three c.add_hosts.result (returns-clause-known g c) (returns-clause-room g c) (returns-clause-ok g c) (λ known room is inventory.
    change_keeps c.args.self.now _ c.args.name.now (with_hosts c.args.hosts.now) inventory is
    (λ x at h. hosts_put _ x h c.args.hosts.now known (of_group c.args.self.now c.args.name.now _ room x at)) (λ x at h. hosts_put_fits inventory x h c.args.hosts.now))
