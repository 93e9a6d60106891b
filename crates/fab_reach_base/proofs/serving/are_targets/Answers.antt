use Rattle.std.proofs.Common.{◌∷◌, [], ◌++◌, refl, sym, ◌∙◌}
use mathlib.Core.Bool.{true≢false}
use Rattle.std.specs.Map.Iter.{deref}
use Rattle.std.proofs.lemmas.Map.Iter.{rest_more, rest_all}
use Rattle.std.specs.Cmp.{nat_cmp_total}
use Rattle.std.specs.FinSet as set
use Rattle.fab_reach_base.specs.Serving.{IsArrayPort}
use Rattle.fab_mapping.proofs.fab_mapping_base.fab_lemmas.Walks.{walked, walk_end}
use Rattle.fab_reach_base.proofs.Scanning.{none_yet, one_more, is_in_set, all_in_set}
use Rattle.fab_reach_base.proofs.serving.are_targets.Goals as goal

pub loop-target-init : goal.loop-target-init
loop-target-init g c = (c.targets-target-items.result, c.targets-target-items.ensures.targets, [], sym c.into_iter-target-iterator.ensures.into_iter_gives, none_yet (IsArrayPort c.args.inventory.now))

pub loop-target-preserved : goal.loop-target-preserved
loop-target-preserved g c =
    let i = c.loop-target.invariant in (
      i.0,
      i.1,
      i.2 ++ c.in-Some.target.now ∷ [],
      walked i.0 i.2 c.loop-target.target-iterator c.next.new.self c.in-Some.target.now i.3 (rest_more deref c.loop-target.target-iterator c.next.new.self c.next.result c.in-Some.target c.in-Some.is c.next.ensures.steps),
      one_more (IsArrayPort c.args.inventory.now) i.2 c.in-Some.target.now i.4 (c.is_array_port.ensures.0 c.if-not-is_array_port.false),
    )

pub returns-then-not-is_array_port : goal.returns-then-not-is_array_port
returns-then-not-is_array_port g c =
    let i = c.loop-target.invariant in (
      λ t. absurd (true≢false (sym t)),
      λ h.
          let there = is_in_set nat_cmp_total set.nat_cmp-IsAntisymmetric c.args.group.now.targets i.0 i.2 c.loop-target.target-iterator c.next.new.self c.in-Some.target.now i.1 i.3 (rest_more deref c.loop-target.target-iterator c.next.new.self c.next.result c.in-Some.target c.in-Some.is c.next.ensures.steps) in
          absurd (true≢false (sym (c.is_array_port.ensures.1 (h c.in-Some.target.now there)) ∙ c.if-not-is_array_port.true)),
    )

pub returns : goal.returns
returns g c =
    let i = c.loop-target.invariant in (
      λ t. all_in_set nat_cmp_total set.nat_cmp-IsAntisymmetric (IsArrayPort c.args.inventory.now) c.args.group.now.targets i.0 i.2 i.1
          (walk_end i.0 i.2 c.loop-target.target-iterator i.3 (rest_all deref c.loop-target.target-iterator c.next.new.self c.next.result c.in-None.is c.next.ensures.steps)) i.4,
      λ h. refl,
    )
