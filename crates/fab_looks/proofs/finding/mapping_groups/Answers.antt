use Rattle.std.proofs.Common.{Bor, ◌≡◌, List, [], ◌∷◌, ◌++◌, map, refl, sym, ap, ◌∙◌, subst}
use mathlib.Core.Bool.{true≢false}
use Rattle.std.specs.Map.Iter.{deref_pair}
use Rattle.std.proofs.lemmas.List.{map-append}
use Rattle.std.proofs.lemmas.Map.Iter.{rest_more, rest_all}
use Rattle.fab_lemmas.proofs.Walks.{walked, walk_end}
use Rattle.fab_mapping_base.specs.Groups.{StorageGroupRows}
use Rattle.fab_reach_base.proofs.Adding.{Before}
use Rattle.fab_looks.specs.Inner.Offers.{AreJust}
use Rattle.fab_looks.proofs.Filled.{gathered_none, gathered_more, gathered_skip}
use Rattle.fab_looks.proofs.Gains.{now, ByEntry, all_mapped}
use Rattle.fab_looks.proofs.finding.mapping_groups.Goals as goal

pub loop-name-init : goal.loop-name-init
loop-name-init g c = (
  c.groups-name-items.result,
  c.groups-name-items.ensures,
  [],
  sym c.into_iter-name-iterator.ensures.into_iter_gives,
  subst (λ (xs : List (Bor StorageGroupRows)). AreJust (Before (ByEntry c.args.volume.now) []) (map now xs)) (sym c.new-groups.ensures.items) (gathered_none (ByEntry c.args.volume.now)),
)

pub loop-name-preserved-in-Continue-1 : goal.loop-name-preserved-in-Continue-1
loop-name-preserved-in-Continue-1 g c =
    let i = c.loop-name.invariant in
    let made : map now c.push.new.self.items ≡ map now c.loop-name.groups.items ++ c.in-Some.group.now ∷ [] = ap (map now) c.in_ok-push.ensures.items ∙ map-append now c.loop-name.groups.items (c.in-Some.group ∷ []) in (
      i.0,
      i.1,
      i.2 ++ (c.in-Some._name.now, c.in-Some.group.now) ∷ [],
      walked i.0 i.2 c.loop-name._name-iterator c.next.new.self (c.in-Some._name.now, c.in-Some.group.now) i.3 (rest_more deref_pair c.loop-name._name-iterator c.next.new.self c.next.result (c.in-Some._name, c.in-Some.group) c.in-Some.is c.next.ensures.steps),
      subst (λ (gs : List StorageGroupRows). AreJust (Before (ByEntry c.args.volume.now) (i.2 ++ (c.in-Some._name.now, c.in-Some.group.now) ∷ [])) gs) (sym made)
          (gathered_more (ByEntry c.args.volume.now) i.2 (c.in-Some._name.now, c.in-Some.group.now) (map now c.loop-name.groups.items) c.in-Some.group.now (λ y h. h.0) (refl, c.has_volume.ensures.0 c.if-has_volume.true) i.4),
    )

pub loop-name-preserved : goal.loop-name-preserved
loop-name-preserved g c =
    let i = c.loop-name.invariant in (
      i.0,
      i.1,
      i.2 ++ (c.in-Some._name.now, c.in-Some.group.now) ∷ [],
      walked i.0 i.2 c.loop-name._name-iterator c.next.new.self (c.in-Some._name.now, c.in-Some.group.now) i.3 (rest_more deref_pair c.loop-name._name-iterator c.next.new.self c.next.result (c.in-Some._name, c.in-Some.group) c.in-Some.is c.next.ensures.steps),
      gathered_skip (ByEntry c.args.volume.now) i.2 (c.in-Some._name.now, c.in-Some.group.now) (map now c.loop-name.groups.items) (λ y h. true≢false (sym (c.has_volume.ensures.1 h.1) ∙ c.if-has_volume.false)) i.4,
    )

pub returns : goal.returns
returns g c =
    let i = c.loop-name.invariant in
    all_mapped c.args.mapping.now c.args.volume.now i.2 (map now c.loop-name.groups.items)
    (walk_end i.0 i.2 c.loop-name._name-iterator i.3 (rest_all deref_pair c.loop-name._name-iterator c.next.new.self c.next.result c.in-None.is c.next.ensures.steps) ∙ i.1) i.4
