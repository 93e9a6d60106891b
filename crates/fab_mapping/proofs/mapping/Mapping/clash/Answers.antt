use Rattle.std.proofs.Common.{Option, IfOk, MatchOption, ap, subst}
use Rattle.std.specs.BTreeMap.{get}
use Rattle.std.specs.FinMap as fin
use Rattle.fab_mapping_base.proofs.fab_lemmas.SeenMaps.{same_look_ups}
use Rattle.fab_mapping_base.specs.fab_names.Orders.{name_cmp}
use Rattle.fab_mapping_base.proofs.fab_names.OrderLaws.{name_total}
use Rattle.fab_mapping_base.specs.declared.nexus.Nexus.{Nexus}
use Rattle.fab_mapping_base.specs.Clashes.{HostGroups, StorageGroups, Maps, IsLeastClashIn, HasNoClashIn}
use Rattle.fab_mapping.specs.Mappings.{MappingRows}
use Rattle.fab_mapping.proofs.mapping.Mapping.clash.Goals as goal

-- what the search answers of these groups
abbrev Answer : HostGroups → StorageGroups → Option Nexus → Type 0
Answer h k clash = MatchOption clash (HasNoClashIn (Maps h k)) (IsLeastClashIn (Maps h k))

pub returns : goal.returns
returns g c =
    let hosts = same_look_ups name_total c.self.inside.host_groups c.args.self.now.host_groups (ap (λ (v : MappingRows). v.host_groups) c.self.view_is) in
    let groups = same_look_ups name_total c.self.inside.groups c.args.self.now.groups (ap (λ (v : MappingRows). v.groups) c.self.view_is) in
    subst (λ h. IfOk c.least_clash.result (Answer h (fin.get c.args.self.now.groups))) hosts (subst (λ k. IfOk c.least_clash.result (Answer (get name_cmp c.self.inside.host_groups) k)) groups c.least_clash.ensures)
