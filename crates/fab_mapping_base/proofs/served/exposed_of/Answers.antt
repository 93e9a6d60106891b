use Rattle.std.proofs.Common.{Bor, ◌≡◌, List, [], ◌∷◌, ◌++◌, map, sym, ap, ◌∙◌, subst}
use Rattle.std.specs.Map.Iter.{deref_pair}
use Rattle.std.proofs.lemmas.List.{map-append}
use Rattle.std.proofs.lemmas.Map.Iter.{rest_more, rest_all}
use Rattle.fab_inventory.proofs.fab_lemmas.Walks.{walked, walk_end}
use Rattle.fab_mapping_base.specs.Groups.{StorageGroupRows}
use Rattle.fab_mapping_base.proofs.Serving.{AreExposed, exposed_none, exposed_more, exposed_skip, exposed_all}
use Rattle.fab_mapping_base.proofs.served.exposed_of.Goals as goal

abbrev now : Bor StorageGroupRows → StorageGroupRows
now r = r.now

pub loop-name-init : goal.loop-name-init
loop-name-init g c = ([], sym c.into_iter-name-iterator.ensures.into_iter_gives.0, subst (λ (xs : List (Bor StorageGroupRows)). AreExposed (map now xs) []) (sym c.new-exposed.ensures.items) exposed_none)

pub loop-name-preserved-in-Continue-1 : goal.loop-name-preserved-in-Continue-1
loop-name-preserved-in-Continue-1 g c =
    let i = c.loop-name.invariant in
    let made : map now c.push.new.self.items ≡ map now c.loop-name.exposed.items ++ c.in-Some.group.now ∷ [] = ap (map now) c.in_ok-push.ensures.items ∙ map-append now c.loop-name.exposed.items (c.in-Some.group ∷ []) in (
      i.0 ++ (c.in-Some._name.now, c.in-Some.group.now) ∷ [],
      walked c.args.groups.now.entries i.0 c.loop-name._name-iterator c.next.new.self (c.in-Some._name.now, c.in-Some.group.now) i.1 (rest_more deref_pair c.loop-name._name-iterator c.next.new.self c.next.result (c.in-Some._name, c.in-Some.group) c.in-Some.is c.next.ensures.steps),
      subst (λ (gs : List StorageGroupRows). AreExposed gs (i.0 ++ (c.in-Some._name.now, c.in-Some.group.now) ∷ [])) (sym made) (exposed_more (map now c.loop-name.exposed.items) i.0 c.in-Some._name.now c.in-Some.group.now (sym c.is_exposed.ensures ∙ c.if-is_exposed.true) i.2),
    )

pub loop-name-preserved : goal.loop-name-preserved
loop-name-preserved g c =
    let i = c.loop-name.invariant in (
      i.0 ++ (c.in-Some._name.now, c.in-Some.group.now) ∷ [],
      walked c.args.groups.now.entries i.0 c.loop-name._name-iterator c.next.new.self (c.in-Some._name.now, c.in-Some.group.now) i.1 (rest_more deref_pair c.loop-name._name-iterator c.next.new.self c.next.result (c.in-Some._name, c.in-Some.group) c.in-Some.is c.next.ensures.steps),
      exposed_skip (map now c.loop-name.exposed.items) i.0 c.in-Some._name.now c.in-Some.group.now (sym c.is_exposed.ensures ∙ c.if-is_exposed.false) i.2,
    )

pub returns : goal.returns
returns g c =
    let i = c.loop-name.invariant in
    exposed_all c.args.groups.now i.0 (map now c.loop-name.exposed.items) c.into_iter-name-iterator.ensures.into_iter_gives.5
    (walk_end c.args.groups.now.entries i.0 c.loop-name._name-iterator i.1 (rest_all deref_pair c.loop-name._name-iterator c.next.new.self c.next.result c.in-None.is c.next.ensures.steps)) i.2
