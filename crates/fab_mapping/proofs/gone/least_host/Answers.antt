use Rattle.std.proofs.Common.{ℕ, List, [], ◌∷◌, ◌++◌, sym, subst}
use Rattle.std.specs.Map.Iter.{deref_pair}
use Rattle.std.proofs.lemmas.Map.Iter.{rest_more, rest_all}
use Rattle.fab_mapping_base.specs.fab_lemmas.Firsts.{IsFirstOf}
use Rattle.fab_mapping_base.proofs.fab_lemmas.Adding.{Before}
use Rattle.fab_mapping_base.proofs.fab_lemmas.Leasts.{least_none, least_more}
use Rattle.fab_mapping_base.proofs.fab_lemmas.Walks.{walked, walk_end}
use Rattle.fab_mapping_base.specs.fab_names.Orders.{name_cmp}
use Rattle.fab_mapping_base.proofs.fab_names.OrderLaws.{name_total}
use Rattle.fab_mapping_base.specs.Groups.{HostGroupRows}
use Rattle.fab_mapping_base.specs.Fitting.{LacksHost}
use Rattle.fab_mapping.proofs.Lacking.{lacking_groups}
use Rattle.fab_mapping.proofs.gone.least_host.Goals as goal

pub loop-name-init : goal.loop-name-init
loop-name-init g c = ([], sym c.into_iter-name-iterator.ensures.into_iter_gives.0, least_none name_total (λ (e : List ℕ × HostGroupRows). LacksHost c.args.inventory.now e.1))

pub loop-name-preserved : goal.loop-name-preserved
loop-name-preserved g c =
    let i = c.loop-name.invariant in
    let Lacks = λ (e : List ℕ × HostGroupRows). LacksHost c.args.inventory.now e.1 in
    let entry : List ℕ × HostGroupRows = (c.in-Some._name.now, c.in-Some.group.now) in (
      i.0 ++ entry ∷ [],
      walked c.args.host_groups.now.entries i.0 c.loop-name._name-iterator c.next.new.self entry i.1 (rest_more deref_pair c.loop-name._name-iterator c.next.new.self c.next.result (c.in-Some._name, c.in-Some.group) c.in-Some.is c.next.ensures.steps),
      subst (IsFirstOf name_cmp (Before Lacks (i.0 ++ entry ∷ []))) (sym c.lesser-least.ensures) (least_more name_total Lacks i.0 entry c.loop-name.least c.gone_host.result i.2 c.gone_host.ensures),
    )

pub returns : goal.returns
returns g c =
    let i = c.loop-name.invariant in
    lacking_groups name_cmp c.args.host_groups.now (LacksHost c.args.inventory.now) i.0 c.loop-name.least c.into_iter-name-iterator.ensures.into_iter_gives.5
    (walk_end c.args.host_groups.now.entries i.0 c.loop-name._name-iterator i.1 (rest_all deref_pair c.loop-name._name-iterator c.next.new.self c.next.result c.in-None.is c.next.ensures.steps)) i.2
