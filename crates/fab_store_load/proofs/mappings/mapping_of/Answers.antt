use Rattle.std.proofs.Common.{sym, ◌∙◌, subst}
use mathlib.Core.Bool.{true≢false}
use Rattle.std.specs.FinMap as map
use Rattle.fab_reach_base.specs.fab_mapping.Mappings.{MappingRows, HasNoClash, IsLeastClash}
use Rattle.fab_reach_base.specs.fab_mapping.Soundness.{IsSound}
use Rattle.fab_store_load.specs.Configs.{HostGroupsSay, StorageGroupsSay}
use Rattle.fab_store_load.proofs.MappingRows.{host_groups_say, storage_groups_say, found_groups, no_groups, one_mapping, clash_stands, OnlyHostGroups, OnlyGroups, NoHostGroups, NoGroups}
use Rattle.fab_store_load.proofs.mappings.mapping_of.Goals as goal

pub returns-in_default-clause-damaged : goal.returns-in_default-clause-damaged
returns-in_default-clause-damaged g c w all sound = no_groups (OnlyHostGroups c.args.rows.now) (NoHostGroups c.args.rows.now) c.in_ok-host_groups.field-0 c.in_default.is c.in_ok-host_groups.ensures.only w.mapping.host_groups (host_groups_say c.args.rows.now w all)

pub returns-in_default-2-clause-damaged : goal.returns-in_default-2-clause-damaged
returns-in_default-2-clause-damaged g c w all sound = no_groups (OnlyGroups c.args.rows.now) (NoGroups c.args.rows.now) c.in_ok-groups.field-0 c.in_default-2.is c.in_ok-groups.ensures.only w.mapping.groups (storage_groups_say c.args.rows.now w all)

pub returns-then-not-is_sound-clause-damaged : goal.returns-then-not-is_sound-clause-damaged
returns-then-not-is_sound-clause-damaged g c w all sound =
    let hosts = found_groups (OnlyHostGroups c.args.rows.now) (NoHostGroups c.args.rows.now) c.in_ok-host_groups.field-0 c.in-Some.host_groups c.in-Some.is c.in_ok-host_groups.ensures.only in
    let groups = found_groups (OnlyGroups c.args.rows.now) (NoGroups c.args.rows.now) c.in_ok-groups.field-0 c.in-Some-2.groups c.in-Some-2.is c.in_ok-groups.ensures.only in
    let same = one_mapping c.args.rows.now w all c.in-Some.host_groups c.in-Some-2.groups hosts groups ∙ sym c.from_maps-mapping.ensures in
    true≢false (sym (c.is_sound.ensures.1 (subst IsSound same sound.0)) ∙ c.if-not-is_sound.true)

pub returns-in-Some-3-clause-damaged : goal.returns-in-Some-3-clause-damaged
returns-in-Some-3-clause-damaged g c w all sound =
    let hosts = found_groups (OnlyHostGroups c.args.rows.now) (NoHostGroups c.args.rows.now) c.in_ok-host_groups.field-0 c.in-Some.host_groups c.in-Some.is c.in_ok-host_groups.ensures.only in
    let groups = found_groups (OnlyGroups c.args.rows.now) (NoGroups c.args.rows.now) c.in_ok-groups.field-0 c.in-Some-2.groups c.in-Some-2.is c.in_ok-groups.ensures.only in
    let same = one_mapping c.args.rows.now w all c.in-Some.host_groups c.in-Some-2.groups hosts groups ∙ sym c.from_maps-mapping.ensures in
    clash_stands c.from_maps-mapping.result c.in_ok-_nexus.field-0 _ c.in-Some-3.is c.in_ok-_nexus.ensures (subst HasNoClash same sound.1)

pub returns-clause-host_groups : goal.returns-clause-host_groups
returns-clause-host_groups g c =
    subst (λ (m : MappingRows). HostGroupsSay c.args.rows.now m.host_groups) (sym c.from_maps-mapping.ensures)
    (found_groups (λ t. HostGroupsSay c.args.rows.now (map.from_entries t.entries)) (Unit {0}) c.in_ok-host_groups.field-0 c.in-Some.host_groups c.in-Some.is c.in_ok-host_groups.ensures.rows)

pub returns-clause-groups : goal.returns-clause-groups
returns-clause-groups g c =
    subst (λ (m : MappingRows). StorageGroupsSay c.args.rows.now m.groups) (sym c.from_maps-mapping.ensures)
    (found_groups (λ t. StorageGroupsSay c.args.rows.now (map.from_entries t.entries)) (Unit {0}) c.in_ok-groups.field-0 c.in-Some-2.groups c.in-Some-2.is c.in_ok-groups.ensures.rows)

pub returns-clause-sound : goal.returns-clause-sound
returns-clause-sound g c = (c.is_sound.ensures.0 c.if-not-is_sound.false, no_groups (IsLeastClash c.from_maps-mapping.result) (HasNoClash c.from_maps-mapping.result) c.in_ok-_nexus.field-0 c.in_default-3.is c.in_ok-_nexus.ensures)
