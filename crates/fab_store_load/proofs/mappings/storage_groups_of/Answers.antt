use Rattle.std.proofs.Common.{sym, ◌∙◌}
use mathlib.Core.Bool.{true≢false}
use Rattle.std.specs.BTreeMap.{get}
use Rattle.std.specs.FinMap as map
use Rattle.fab_names.specs.Orders.{name_cmp}
use Rattle.fab_reach_base.specs.fab_mapping_base.Groups.{StorageGroupRows}
use Rattle.fab_store_load.specs.Assembled.{storage_group_at}
use Rattle.fab_store_load.specs.Parts.{HaveParts}
use Rattle.fab_store_load.specs.Configs.{StorageGroupsSay}
use Rattle.fab_store_load.proofs.MappingRows.{parts_are_known, made_storage_groups, only_storage_groups, made_seen, found_groups, no_groups}
use Rattle.fab_store_load.proofs.mappings.storage_groups_of.Goals as goal

pub returns-in_default-clause-only : goal.returns-in_default-clause-only
returns-in_default-clause-only g c = no_groups (HaveParts c.args.rows.now) ((m : map.FinMap name_cmp StorageGroupRows) → ¬ StorageGroupsSay c.args.rows.now m) c.in_ok-parts.field-0 c.in_default.is c.in_ok-parts.ensures

pub returns-then-not-are_parts_known-clause-only : goal.returns-then-not-are_parts_known-clause-only
returns-then-not-are_parts_known-clause-only g c m says =
    let have = found_groups (HaveParts c.args.rows.now) ((n : map.FinMap name_cmp StorageGroupRows) → ¬ StorageGroupsSay c.args.rows.now n) c.in_ok-parts.field-0 c.in-Some.parts c.in-Some.is c.in_ok-parts.ensures in
    true≢false (sym (parts_are_known c.args.rows.now c.args.heads.now c.requires c.in-Some.parts have m says) ∙ (sym c.are_parts_known.ensures ∙ c.if-not-are_parts_known.true))

pub returns-clause-rows : goal.returns-clause-rows
returns-clause-rows g c =
    let have = found_groups (HaveParts c.args.rows.now) ((n : map.FinMap name_cmp StorageGroupRows) → ¬ StorageGroupsSay c.args.rows.now n) c.in_ok-parts.field-0 c.in-Some.parts c.in-Some.is c.in_ok-parts.ensures in
    made_storage_groups c.args.rows.now c.args.heads.now c.requires c.in-Some.parts have (map.from_entries c.in_ok-groups.groups.entries)
    (made_seen c.in_ok-groups.groups (storage_group_at c.in-Some.parts) (get name_cmp c.args.heads.now) c.in_ok-groups.ensures) (sym c.are_parts_known.ensures ∙ c.if-not-are_parts_known.false)

pub returns-clause-only : goal.returns-clause-only
returns-clause-only g c =
    let have = found_groups (HaveParts c.args.rows.now) ((n : map.FinMap name_cmp StorageGroupRows) → ¬ StorageGroupsSay c.args.rows.now n) c.in_ok-parts.field-0 c.in-Some.parts c.in-Some.is c.in_ok-parts.ensures in
    only_storage_groups c.args.rows.now c.args.heads.now c.requires c.in-Some.parts have (map.from_entries c.in_ok-groups.groups.entries)
    (made_seen c.in_ok-groups.groups (storage_group_at c.in-Some.parts) (get name_cmp c.args.heads.now) c.in_ok-groups.ensures)
