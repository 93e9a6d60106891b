use Rattle.std.proofs.Common.{◌≡◌, Some, sym, subst}
use Rattle.std.specs.FinMap as map
use Rattle.fab_reach_base.specs.fab_mapping.Mappings.{MappingRows}
use Rattle.fab_desk_trials.proofs.TenantSets.{host_group_added}
use Rattle.fab_desk_trials.proofs.things.add_host_group.Goals as goal

pub returns : goal.returns
returns g c = host_group_added c.args.view.now.config.now.mapping c.args.name.now c.tenant.result c.in-Some.group.now c.args.tenants.now c.insert.new.self (subst (λ (m : MappingRows). map.get m.host_groups c.args.name.now ≡ Some c.in-Some.group.now) c.mapping-mapping.ensures (sym c.in-Some.ensures)) c.tenant.ensures c.in_ok-insert.ensures.updates.0
