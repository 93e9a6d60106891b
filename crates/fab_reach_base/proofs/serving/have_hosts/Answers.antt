use Rattle.std.proofs.Common.{ℕ, List, ◌∷◌, [], ◌++◌, refl, sym, ◌∙◌}
use mathlib.Core.Bool.{true≢false}
use Rattle.std.specs.Map.Iter.{deref_pair}
use Rattle.std.proofs.lemmas.Map.Iter.{rest_more, rest_all}
use Rattle.fab_mapping.proofs.fab_mapping_base.fab_names.OrderLaws.{name_total, name_exact}
use Rattle.fab_mapping.specs.fab_mapping_base.Groups.{HostGroupRows}
use Rattle.fab_mapping.proofs.fab_mapping_base.fab_lemmas.Walks.{walked, walk_end}
use Rattle.fab_mapping.specs.fab_mapping_base.Fitting.{HasHosts}
use Rattle.fab_reach_base.proofs.Scanning.{none_yet, one_more, is_in_map, all_in_map}
use Rattle.fab_reach_base.proofs.serving.have_hosts.Goals as goal

pub loop-name-init : goal.loop-name-init
loop-name-init g c = (c.host_groups-name-items.result, c.host_groups-name-items.ensures, [], sym c.into_iter-name-iterator.ensures.into_iter_gives, none_yet (λ (e : List ℕ × HostGroupRows). HasHosts c.args.inventory.now e.1))

pub loop-name-preserved : goal.loop-name-preserved
loop-name-preserved g c =
    let i = c.loop-name.invariant in (
      i.0,
      i.1,
      i.2 ++ (c.in-Some._name.now, c.in-Some.group.now) ∷ [],
      walked i.0 i.2 c.loop-name._name-iterator c.next.new.self (c.in-Some._name.now, c.in-Some.group.now) i.3 (rest_more deref_pair c.loop-name._name-iterator c.next.new.self c.next.result (c.in-Some._name, c.in-Some.group) c.in-Some.is c.next.ensures.steps),
      one_more (λ (e : List ℕ × HostGroupRows). HasHosts c.args.inventory.now e.1) i.2 (c.in-Some._name.now, c.in-Some.group.now) i.4 (c.host_group_fits.ensures.0 c.if-not-host_group_fits.false),
    )

pub returns-then-not-host_group_fits : goal.returns-then-not-host_group_fits
returns-then-not-host_group_fits g c =
    let i = c.loop-name.invariant in (
      λ t. absurd (true≢false (sym t)),
      λ h.
          let there = is_in_map name_total name_exact c.args.mapping.now.host_groups i.0 i.2 c.loop-name._name-iterator c.next.new.self (c.in-Some._name.now, c.in-Some.group.now) i.1 i.3 (rest_more deref_pair c.loop-name._name-iterator c.next.new.self c.next.result (c.in-Some._name, c.in-Some.group) c.in-Some.is c.next.ensures.steps) in
          absurd (true≢false (sym (c.host_group_fits.ensures.1 (h c.in-Some._name.now c.in-Some.group.now there)) ∙ c.if-not-host_group_fits.true)),
    )

pub returns : goal.returns
returns g c =
    let i = c.loop-name.invariant in (
      λ t. all_in_map name_total name_exact (HasHosts c.args.inventory.now) c.args.mapping.now.host_groups i.0 i.2 i.1
          (walk_end i.0 i.2 c.loop-name._name-iterator i.3 (rest_all deref_pair c.loop-name._name-iterator c.next.new.self c.next.result c.in-None.is c.next.ensures.steps)) i.4,
      λ h. refl,
    )
