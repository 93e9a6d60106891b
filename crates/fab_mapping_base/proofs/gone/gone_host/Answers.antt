use Rattle.std.proofs.Common.{[], ◌∷◌, ◌++◌, sym, ap, ◌∙◌, subst}
use Rattle.std.specs.FinSet as set
use Rattle.std.specs.Map.Iter.{deref}
use Rattle.std.proofs.lemmas.Map.Iter.{rest_more, rest_all}
use Rattle.fab_inventory.specs.Inventories.{IsHost}
use Rattle.fab_inventory.specs.fab_lemmas.Firsts.{IsFirstOf}
use Rattle.fab_inventory.proofs.fab_lemmas.Adding.{Before}
use Rattle.fab_inventory.proofs.fab_lemmas.Leasts.{least_none, least_more}
use Rattle.fab_inventory.proofs.fab_lemmas.Walks.{walked, walk_end}
use Rattle.fab_inventory.specs.fab_names.Orders.{name_cmp}
use Rattle.fab_inventory.proofs.fab_names.OrderLaws.{name_total, name_exact}
use Rattle.fab_mapping_base.proofs.Lacking.{Lacking, lacking_one, lacking_members}
use Rattle.fab_mapping_base.proofs.gone.gone_host.Goals as goal

pub loop-host-init : goal.loop-host-init
loop-host-init g c = (c.hosts-host-items.result, c.hosts-host-items.ensures.hosts, [], sym c.into_iter-host-iterator.ensures.into_iter_gives, least_none name_total (Lacking (IsHost c.args.inventory.now.holders)))

pub loop-host-preserved : goal.loop-host-preserved
loop-host-preserved g c =
    let i = c.loop-host.invariant in
    let Good = IsHost c.args.inventory.now.holders in (
      i.0,
      i.1,
      i.2 ++ c.in-Some.host.now ∷ [],
      walked i.0 i.2 c.loop-host.host-iterator c.next.new.self c.in-Some.host.now i.3 (rest_more deref c.loop-host.host-iterator c.next.new.self c.next.result c.in-Some.host c.in-Some.is c.next.ensures.steps),
      subst (IsFirstOf name_cmp (Before (Lacking Good) (i.2 ++ c.in-Some.host.now ∷ []))) (sym c.lesser-least.ensures)
          (least_more name_total (Lacking Good) i.2 c.in-Some.host.now c.loop-host.least c.unless_host.result i.4 (lacking_one name_total Good c.in-Some.host.now c.unless_host.result c.unless_host.ensures)),
    )

pub returns : goal.returns
returns g c =
    let i = c.loop-host.invariant in
    lacking_members name_total (IsHost c.args.inventory.now.holders) name_exact c.args.group.now.hosts i.2 c.loop-host.least
    (ap set.from_list (walk_end i.0 i.2 c.loop-host.host-iterator i.3 (rest_all deref c.loop-host.host-iterator c.next.new.self c.next.result c.in-None.is c.next.ensures.steps)) ∙ i.1) i.4
