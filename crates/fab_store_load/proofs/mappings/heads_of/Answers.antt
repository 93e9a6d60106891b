use Rattle.std.proofs.Common.{arith}
use Rattle.std.specs.FinMap as map
use Rattle.std.specs.Option.{option_map}
use Rattle.fab_names.specs.Orders.{name_cmp}
use Rattle.fab_store_load.specs.Kinds.{host_group_row, storage_group_row}
use Rattle.fab_store_load.proofs.Restored.{found, not_found}
use Rattle.fab_store_load.proofs.Saying.{no_repeat}
use Rattle.fab_store_load.proofs.MappingRows.{tenant_of, head_of, tenants_say, storage_say, tenants_alike, storage_alike, no_more_heads, host_groups_say, storage_groups_say}
use Rattle.fab_store_load.proofs.mappings.heads_of.Goals as goal

pub returns-in_default-clause-damaged : goal.returns-in_default-clause-damaged
returns-in_default-clause-damaged g c w all sound =
    no_repeat host_group_row c.args.rows.now (λ q. option_map tenant_of (map.get w.mapping.host_groups q)) (not_found name_cmp host_group_row c.args.rows.now c.in_ok-tenants.field-0 c.in_default.is c.in_ok-tenants.ensures)
    (tenants_say c.args.rows.now w.mapping.host_groups (host_groups_say c.args.rows.now w all))

pub returns-in_default-2-clause-damaged : goal.returns-in_default-2-clause-damaged
returns-in_default-2-clause-damaged g c w all sound =
    no_repeat storage_group_row c.args.rows.now (λ q. option_map head_of (map.get w.mapping.groups q)) (not_found name_cmp storage_group_row c.args.rows.now c.in_ok-storage.field-0 c.in_default-2.is c.in_ok-storage.ensures)
    (storage_say c.args.rows.now w.mapping.groups (storage_groups_say c.args.rows.now w all))

pub returns-then-len-gt-MOST_HOST_GROUPS-clause-damaged : goal.returns-then-len-gt-MOST_HOST_GROUPS-clause-damaged
returns-then-len-gt-MOST_HOST_GROUPS-clause-damaged g c w all sound =
    let tenants = found name_cmp host_group_row c.args.rows.now c.in_ok-tenants.field-0 c.in-Some.tenants c.in-Some.is c.in_ok-tenants.ensures in
    let bound = no_more_heads tenant_of w.mapping.host_groups c.in-Some.tenants c.len.ensures.ordered (tenants_alike c.args.rows.now c.in-Some.tenants tenants w.mapping.host_groups (host_groups_say c.args.rows.now w all)) in
    let few = sound.few_host_groups in
    let len = c.len.ensures.len in
    let many = c.if-len-gt-MOST_HOST_GROUPS.true in
    omega (arith, bound, few, len, many)

pub returns-then-len-gt-MOST_STORAGE_GROUPS-clause-damaged : goal.returns-then-len-gt-MOST_STORAGE_GROUPS-clause-damaged
returns-then-len-gt-MOST_STORAGE_GROUPS-clause-damaged g c w all sound =
    let heads = found name_cmp storage_group_row c.args.rows.now c.in_ok-storage.field-0 c.in-Some-2.storage c.in-Some-2.is c.in_ok-storage.ensures in
    let bound = no_more_heads head_of w.mapping.groups c.in-Some-2.storage c.len-2.ensures.ordered (storage_alike c.args.rows.now c.in-Some-2.storage heads w.mapping.groups (storage_groups_say c.args.rows.now w all)) in
    let few = sound.few_groups in
    let len = c.len-2.ensures.len in
    let many = c.if-len-gt-MOST_STORAGE_GROUPS.true in
    omega (arith, bound, few, len, many)
