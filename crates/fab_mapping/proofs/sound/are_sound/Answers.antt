use Rattle.std.proofs.Common.{◌≤◌, refl, sym, ◌∙◌, subst}
use mathlib.Core.Bool.{true≢false}
use Rattle.std.specs.BTreeMap.{get}
use Rattle.std.specs.FinMap as map
use Rattle.fab_mapping_base.specs.fab_names.Orders.{name_cmp}
use Rattle.fab_mapping_base.proofs.fab_names.OrderLaws.{name_total}
use Rattle.fab_mapping_base.proofs.fab_lemmas.SeenMaps.{len_entries, same_look_ups}
use Rattle.fab_mapping_base.specs.declared.limits.TheConstants.{MOST_HOST_GROUPS, MOST_STORAGE_GROUPS}
use Rattle.fab_mapping.specs.Soundness.{Each, IsSoundHostGroup, IsSoundGroup}
use Rattle.fab_mapping_base.proofs.Sounding.{too_many}
use Rattle.fab_mapping.proofs.sound.are_sound.Goals as goal

pub returns-then-count_of_hosts-gt-MOST_HOST_GROUPS : goal.returns-then-count_of_hosts-gt-MOST_HOST_GROUPS
returns-then-count_of_hosts-gt-MOST_HOST_GROUPS g c =
    let is = c.len-count_of_hosts.ensures.len ∙ sym (len_entries name_total c.args.host_groups.now.entries c.len-count_of_hosts.ensures.ordered) in
    (λ t. absurd (true≢false (sym t)), λ s. absurd (too_many _ _ MOST_HOST_GROUPS is c.if-count_of_hosts-gt-MOST_HOST_GROUPS.true s.few_host_groups))

pub returns-then-count-gt-MOST_STORAGE_GROUPS : goal.returns-then-count-gt-MOST_STORAGE_GROUPS
returns-then-count-gt-MOST_STORAGE_GROUPS g c =
    let is = c.len-count.ensures.len ∙ sym (len_entries name_total c.args.groups.now.entries c.len-count.ensures.ordered) in
    (λ t. absurd (true≢false (sym t)), λ s. absurd (too_many _ _ MOST_STORAGE_GROUPS is c.if-count-gt-MOST_STORAGE_GROUPS.true s.few_groups))

pub returns-then-not-are_sound_host_groups : goal.returns-then-not-are_sound_host_groups
returns-then-not-are_sound_host_groups g c =
    let host_groups = same_look_ups name_total c.args.host_groups.now (map.from_entries c.args.host_groups.now.entries) refl in
    (λ t. absurd (true≢false (sym t)), λ s. absurd (true≢false (sym (c.are_sound_host_groups.ensures.1 (subst (λ at. Each at IsSoundHostGroup) (sym host_groups) s.host_groups)) ∙ c.if-not-are_sound_host_groups.true)))

pub returns : goal.returns
returns g c =
    let host_groups = same_look_ups name_total c.args.host_groups.now (map.from_entries c.args.host_groups.now.entries) refl in
    let groups = same_look_ups name_total c.args.groups.now (map.from_entries c.args.groups.now.entries) refl in
    let named = map.get (map.from_entries {R = name_cmp} c.args.groups.now.entries) in
    let known = get name_cmp c.args.host_groups.now in
    let count_of_hosts = c.len-count_of_hosts.ensures.len ∙ sym (len_entries name_total c.args.host_groups.now.entries c.len-count_of_hosts.ensures.ordered) in
    let count = c.len-count.ensures.len ∙ sym (len_entries name_total c.args.groups.now.entries c.len-count.ensures.ordered) in (
      λ t. record {
        host_groups = subst (λ at. Each at IsSoundHostGroup) host_groups (c.are_sound_host_groups.ensures.0 c.if-not-are_sound_host_groups.false);
        groups = subst (λ at. Each named (IsSoundGroup at)) host_groups (subst (λ at. Each at (IsSoundGroup known)) groups (c.are_sound_groups.ensures.0 t));
        few_host_groups = subst (λ n. n ≤ MOST_HOST_GROUPS) count_of_hosts c.if-count_of_hosts-gt-MOST_HOST_GROUPS.false;
        few_groups = subst (λ n. n ≤ MOST_STORAGE_GROUPS) count c.if-count-gt-MOST_STORAGE_GROUPS.false;
      },
      λ s. c.are_sound_groups.ensures.1 (subst (λ at. Each at (IsSoundGroup known)) (sym groups) (subst (λ at. Each named (IsSoundGroup at)) (sym host_groups) s.groups)),
    )
