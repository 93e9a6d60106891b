use Rattle.std.proofs.Common.{Some, None, is_some, inl, inr, refl, sym, ap, ◌∙◌}
use Rattle.fab_mapping_base.specs.Groups.{without_hosts}
use Rattle.fab_mapping.specs.Mappings.{MappingRows}
use Rattle.fab_mapping.proofs.GroupChanges.{group_seen, changed, kept}
use Rattle.fab_mapping.proofs.Keeping.{change_keeps, hosts_gone, hosts_gone_fits}
use Rattle.fab_mapping.proofs.mapping.Mapping.remove_hosts.Goals as goal

pub returns-in_default-clause-err : goal.returns-in_default-clause-err
returns-in_default-clause-err g c = inl (refl, group_seen c.self.inside.groups c.args.self.now c.args.name.now None (ap (λ (v : MappingRows). v.groups) c.self.view_is) (sym c.in_default.ensures.value))

pub returns-then-not-has_hosts-clause-err : goal.returns-then-not-has_hosts-clause-err
returns-then-not-has_hosts-clause-err g c = inr (refl, (c.in-Some.group.now, group_seen c.self.inside.groups c.args.self.now c.args.name.now (Some c.in-Some.group.now) (ap (λ (v : MappingRows). v.groups) c.self.view_is) (sym c.in-Some.ensures.value), sym c.has_hosts.ensures ∙ c.if-not-has_hosts.true))

pub returns-then-not-has_hosts-clause-unchanged : goal.returns-then-not-has_hosts-clause-unchanged
returns-then-not-has_hosts-clause-unchanged g c = kept c.self.inside.host_groups c.self.inside.groups (c.get_mut.follows.lender c.in-Some.group.now) c.args.name.now c.in-Some.group.now c.in-Some.group.now c.args.self.now c.self.view_is (sym c.in-Some.ensures.value) refl (c.get_mut.follows.holds c.in-Some.group.now).0

pub returns-clause-had : goal.returns-clause-had
returns-clause-had g c = (c.in-Some.group.now, group_seen c.self.inside.groups c.args.self.now c.args.name.now (Some c.in-Some.group.now) (ap (λ (v : MappingRows). v.groups) c.self.view_is) (sym c.in-Some.ensures.value), sym c.has_hosts.ensures ∙ c.if-not-has_hosts.false)

pub returns-clause-ok : goal.returns-clause-ok
returns-clause-ok g c = changed c.self.inside.host_groups c.self.inside.groups (c.get_mut.follows.lender c.remove_hosts.new.self) c.args.name.now c.in-Some.group.now c.remove_hosts.new.self (without_hosts c.args.hosts.now) c.args.self.now c.self.view_is (sym c.in-Some.ensures.value) c.remove_hosts.ensures ((c.get_mut.follows.holds c.remove_hosts.new.self).3 (ap is_some (sym c.in-Some.ensures.value))).0

pub returns-clause-keeps : goal.returns-clause-keeps
returns-clause-keeps g c = λ inventory. change_keeps c.args.self.now _ c.args.name.now (without_hosts c.args.hosts.now) inventory (returns-clause-ok g c) (λ x at h. hosts_gone _ x h c.args.hosts.now) (λ x at h. hosts_gone_fits inventory x h c.args.hosts.now)
