use Rattle.std.proofs.Common.{ℕ, List, ◌∷◌, [], ◌++◌, refl, sym, ◌∙◌}
use mathlib.Core.Bool.{true≢false}
use Rattle.std.specs.Map.Iter.{deref_pair}
use Rattle.std.proofs.lemmas.Map.Iter.{rest_more, rest_all}
use Rattle.fab_mapping.proofs.fab_mapping_base.fab_names.OrderLaws.{name_total, name_exact}
use Rattle.fab_mapping.specs.fab_mapping_base.Groups.{StorageGroupRows}
use Rattle.fab_mapping.proofs.fab_mapping_base.fab_lemmas.Walks.{walked, walk_end}
use Rattle.fab_reach_base.specs.Serving.{AreTargets}
use Rattle.fab_reach_base.proofs.Scanning.{none_yet, one_more, is_in_map, all_in_map}
use Rattle.fab_reach_base.proofs.serving.have_targets.Goals as goal

pub loop-name-init : goal.loop-name-init
loop-name-init g c = (c.groups-name-items.result, c.groups-name-items.ensures, [], sym c.into_iter-name-iterator.ensures.into_iter_gives, none_yet (λ (e : List ℕ × StorageGroupRows). AreTargets c.args.inventory.now e.1))

pub loop-name-preserved : goal.loop-name-preserved
loop-name-preserved g c =
    let i = c.loop-name.invariant in (
      i.0,
      i.1,
      i.2 ++ (c.in-Some._name.now, c.in-Some.group.now) ∷ [],
      walked i.0 i.2 c.loop-name._name-iterator c.next.new.self (c.in-Some._name.now, c.in-Some.group.now) i.3 (rest_more deref_pair c.loop-name._name-iterator c.next.new.self c.next.result (c.in-Some._name, c.in-Some.group) c.in-Some.is c.next.ensures.steps),
      one_more (λ (e : List ℕ × StorageGroupRows). AreTargets c.args.inventory.now e.1) i.2 (c.in-Some._name.now, c.in-Some.group.now) i.4 (c.are_targets.ensures.0 c.if-not-are_targets.false),
    )

pub returns-then-not-are_targets : goal.returns-then-not-are_targets
returns-then-not-are_targets g c =
    let i = c.loop-name.invariant in (
      λ t. absurd (true≢false (sym t)),
      λ h.
          let there = is_in_map name_total name_exact c.args.mapping.now.groups i.0 i.2 c.loop-name._name-iterator c.next.new.self (c.in-Some._name.now, c.in-Some.group.now) i.1 i.3 (rest_more deref_pair c.loop-name._name-iterator c.next.new.self c.next.result (c.in-Some._name, c.in-Some.group) c.in-Some.is c.next.ensures.steps) in
          absurd (true≢false (sym (c.are_targets.ensures.1 (h c.in-Some._name.now c.in-Some.group.now there)) ∙ c.if-not-are_targets.true)),
    )

pub returns : goal.returns
returns g c =
    let i = c.loop-name.invariant in (
      λ t. all_in_map name_total name_exact (AreTargets c.args.inventory.now) c.args.mapping.now.groups i.0 i.2 i.1
          (walk_end i.0 i.2 c.loop-name._name-iterator i.3 (rest_all deref_pair c.loop-name._name-iterator c.next.new.self c.next.result c.in-None.is c.next.ensures.steps)) i.4,
      λ h. refl,
    )
