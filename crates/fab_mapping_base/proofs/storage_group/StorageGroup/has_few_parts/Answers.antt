use Rattle.std.proofs.Common.{◌≤◌, sym, ap, ◌∙◌, subst}
use mathlib.Core.Bool.{true≢false}
use Rattle.std.specs.Cmp.{nat_cmp_total}
use Rattle.std.specs.FinMap as map
use Rattle.std.specs.FinSet as set
use Rattle.fab_inventory.proofs.fab_names.OrderLaws.{name_total}
use Rattle.fab_inventory.proofs.fab_lemmas.SeenMaps.{len_entries}
use Rattle.fab_inventory.proofs.fab_lemmas.SeenSets.{len_seen}
use Rattle.fab_inventory.proofs.fab_lemmas.Tests.{within, from_within}
use Rattle.fab_mapping_base.specs.declared.limits.TheConstants.{MOST_GROUPS_SERVED, MOST_TARGETS, MOST_UNITS}
use Rattle.fab_mapping_base.specs.Groups.{StorageGroupRows}
use Rattle.fab_mapping_base.proofs.Sounding.{too_many}
use Rattle.fab_mapping_base.proofs.storage_group.StorageGroup.has_few_parts.Goals as goal

pub returns-then-host_groups-gt-MOST_GROUPS_SERVED : goal.returns-then-host_groups-gt-MOST_GROUPS_SERVED
returns-then-host_groups-gt-MOST_GROUPS_SERVED g c =
    let is = c.len-host_groups.ensures.len ∙ sym (len_seen name_total c.self.inside.host_groups.keys c.len-host_groups.ensures.ordered) ∙ ap (λ (v : StorageGroupRows). set.len v.host_groups) c.self.view_is in
    (λ t. absurd (true≢false (sym t)), λ s. absurd (too_many _ _ MOST_GROUPS_SERVED is c.if-host_groups-gt-MOST_GROUPS_SERVED.true s.few_host_groups))

pub returns-then-targets-gt-MOST_TARGETS : goal.returns-then-targets-gt-MOST_TARGETS
returns-then-targets-gt-MOST_TARGETS g c =
    let is = c.len-targets.ensures.len ∙ sym (len_seen nat_cmp_total c.self.inside.targets.keys c.len-targets.ensures.ordered) ∙ ap (λ (v : StorageGroupRows). set.len v.targets) c.self.view_is in
    (λ t. absurd (true≢false (sym t)), λ s. absurd (too_many _ _ MOST_TARGETS is c.if-targets-gt-MOST_TARGETS.true s.few_targets))

pub returns : goal.returns
returns g c =
    let host_groups = c.len-host_groups.ensures.len ∙ sym (len_seen name_total c.self.inside.host_groups.keys c.len-host_groups.ensures.ordered) ∙ ap (λ (v : StorageGroupRows). set.len v.host_groups) c.self.view_is in
    let targets = c.len-targets.ensures.len ∙ sym (len_seen nat_cmp_total c.self.inside.targets.keys c.len-targets.ensures.ordered) ∙ ap (λ (v : StorageGroupRows). set.len v.targets) c.self.view_is in
    let units = c.len-units.ensures.len ∙ sym (len_entries nat_cmp_total c.self.inside.units.entries c.len-units.ensures.ordered) ∙ ap (λ (v : StorageGroupRows). map.len v.units) c.self.view_is in (
      λ t. record {
        few_host_groups = subst (λ n. n ≤ MOST_GROUPS_SERVED) host_groups c.if-host_groups-gt-MOST_GROUPS_SERVED.false;
        few_targets = subst (λ n. n ≤ MOST_TARGETS) targets c.if-targets-gt-MOST_TARGETS.false;
        few_units = subst (λ n. n ≤ MOST_UNITS) units (from_within c.len-units.result MOST_UNITS t);
      },
      λ s. within c.len-units.result MOST_UNITS (subst (λ n. n ≤ MOST_UNITS) (sym units) s.few_units),
    )
