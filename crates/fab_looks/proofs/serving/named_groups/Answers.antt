use Rattle.std.proofs.Common.{Bor, ◌≡◌, List, [], ◌∷◌, ◌++◌, map, sym, ap, ◌∙◌, subst}
use Rattle.std.proofs.lemmas.List.{map-append}
use Rattle.fab_lemmas.proofs.Walks.{walked, walk_end}
use Rattle.fab_mapping_base.specs.Groups.{StorageGroupRows}
use Rattle.fab_reach_base.proofs.Adding.{Before}
use Rattle.fab_reach_base.proofs.Same.{same_some}
use Rattle.fab_looks.specs.Inner.Offers.{AreJust}
use Rattle.fab_looks.proofs.Filled.{gathered_none, gathered_more, gathered_skip}
use Rattle.fab_looks.proofs.Gains.{now}
use Rattle.fab_looks.proofs.Services.{AtName, no_name, all_named}
use Rattle.fab_looks.proofs.serving.named_groups.Goals as goal

pub loop-name-init : goal.loop-name-init
loop-name-init g c = (
  [],
  sym c.into_iter-name-iterator.ensures.into_iter_gives.0,
  subst (λ (xs : List (Bor StorageGroupRows)). AreJust (Before (AtName c.args.mapping.now) []) (map now xs)) (sym c.new-groups.ensures.items) (gathered_none (AtName c.args.mapping.now)),
)

pub loop-name-preserved-in-Continue-1 : goal.loop-name-preserved-in-Continue-1
loop-name-preserved-in-Continue-1 g c =
    let i = c.loop-name.invariant in
    let Q = AtName c.args.mapping.now in
    let at = sym c.in-Some-group.ensures in
    let old = c.loop-name.groups.items in
    let items : c.push.new.self.items ≡ old ++ c.in-Some-group.group ∷ [] = c.in_ok-push.ensures.items in
    let made : map now c.push.new.self.items ≡ map now old ++ c.in-Some-group.group.now ∷ [] = ap (map now) items ∙ map-append now old (c.in-Some-group.group ∷ []) in (
      i.0 ++ c.in-Some.name.now ∷ [],
      walked c.args.names.now.keys i.0 c.loop-name.name-iterator c.next.new.self c.in-Some.name.now i.1 c.in-Some.ensures.steps,
      subst (λ (gs : List StorageGroupRows). AreJust (Before Q (i.0 ++ c.in-Some.name.now ∷ [])) gs) (sym made)
          (gathered_more Q i.0 c.in-Some.name.now (map now old) c.in-Some-group.group.now (λ y h. same_some h at) at i.2),
    )

pub loop-name-preserved : goal.loop-name-preserved
loop-name-preserved g c =
    let i = c.loop-name.invariant in (
      i.0 ++ c.in-Some.name.now ∷ [],
      walked c.args.names.now.keys i.0 c.loop-name.name-iterator c.next.new.self c.in-Some.name.now i.1 c.in-Some.ensures.steps,
      gathered_skip (AtName c.args.mapping.now) i.0 c.in-Some.name.now (map now c.loop-name.groups.items) (no_name c.args.mapping.now c.in-Some.name.now (sym c.in_default.ensures)) i.2,
    )

pub returns : goal.returns
returns g c =
    let i = c.loop-name.invariant in
    all_named c.args.mapping.now c.args.names.now i.0 (map now c.loop-name.groups.items) (walk_end c.args.names.now.keys i.0 c.loop-name.name-iterator i.1 c.in-None.ensures.steps.0) i.2
