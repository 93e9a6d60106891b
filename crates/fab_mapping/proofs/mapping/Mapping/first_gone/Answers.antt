use Rattle.std.proofs.Common.{MatchOption, ap, subst}
use Rattle.std.specs.BTreeMap.{get}
use Rattle.std.specs.FinMap as map
use Rattle.fab_mapping_base.proofs.fab_lemmas.SeenMaps.{same_look_ups}
use Rattle.fab_mapping_base.specs.fab_names.Orders.{name_cmp}
use Rattle.fab_mapping_base.proofs.fab_names.OrderLaws.{name_total}
use Rattle.fab_mapping_base.specs.Clashes.{HostGroups, StorageGroups}
use Rattle.fab_mapping_base.specs.Fitting.{HasHosts, GroupFits}
use Rattle.fab_mapping.specs.Mappings.{MappingRows}
use Rattle.fab_mapping.specs.Soundness.{Each}
use Rattle.fab_mapping.specs.Gone.{IsFirstGoneOf}
use Rattle.fab_mapping.proofs.Lacking.{first_or_fits}
use Rattle.fab_mapping.proofs.mapping.Mapping.first_gone.Goals as goal

pub returns : goal.returns
returns g c =
    let hosts = same_look_ups name_total c.self.inside.host_groups c.args.self.now.host_groups (ap (λ (v : MappingRows). v.host_groups) c.self.view_is) in
    let groups = same_look_ups name_total c.self.inside.groups c.args.self.now.groups (ap (λ (v : MappingRows). v.groups) c.self.view_is) in
    let P : HostGroups → StorageGroups → Type 0 = λ h k. MatchOption c.first_gone.result (Each h (HasHosts c.args.inventory.now) × Each k (GroupFits c.args.inventory.now)) (IsFirstGoneOf c.args.inventory.now h k) in
    first_or_fits c.args.inventory.now c.args.self.now c.first_gone.result (subst (λ h. P h (map.get c.args.self.now.groups)) hosts (subst (λ k. P (get name_cmp c.self.inside.host_groups) k) groups c.first_gone.ensures))
