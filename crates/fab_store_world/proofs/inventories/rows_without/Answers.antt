use Rattle.std.proofs.Common.{[], ◌∷◌, ◌++◌, sym, subst}
use Rattle.std.specs.Map.Iter.{deref_pair}
use Rattle.std.proofs.lemmas.Map.Iter.{rest_more, rest_all}
use Rattle.fab_reach_base.specs.fab_lemmas.Lists.{IsListOf}
use Rattle.fab_reach_base.proofs.fab_lemmas.Walks.{walked, walk_end}
use Rattle.fab_store_world.specs.InventoryGathering.{IsRowOfEntries}
use Rattle.fab_store_world.proofs.NamedRows.{listed_none, listed_more}
use Rattle.fab_store_world.proofs.inventories.rows_without.Goals as goal

pub loop-key-init : goal.loop-key-init
loop-key-init g c = ([], sym c.into_iter-key-iterator.ensures.into_iter_gives, listed_none g.T.Table.row_of (λ r. ¬ g.T.Table.knows c.args.other.now r) g.met.T.Table.by_key c.new-rows.result.items c.new-rows.ensures.items)

pub loop-key-preserved : goal.loop-key-preserved
loop-key-preserved g c =
    let i = c.loop-key.invariant in
    let next = rest_more deref_pair c.loop-key.key-iterator c.next.new.self c.next.result (c.in-Some.key, c.in-Some.value) c.in-Some.is c.next.ensures.steps in (
      i.0 ++ (c.in-Some.key.now, c.in-Some.value.now) ∷ [],
      walked c.args.entries i.0 c.loop-key.key-iterator c.next.new.self (c.in-Some.key.now, c.in-Some.value.now) i.1 next,
      listed_more g.T.Table.row_of (λ r. ¬ g.T.Table.knows c.args.other.now r) g.met.T.Table.by_key i.0 (c.in-Some.key.now, c.in-Some.value.now) c.args.entries c.loop-key.key-iterator c.next.new.self c.row.result c.loop-key.rows.items c.push_lacking.new.rows.items i.1 next c.requires c.row.ensures c.in_ok-push_lacking.ensures i.2,
    )

pub returns : goal.returns
returns g c =
    let i = c.loop-key.invariant in
    subst (λ es. IsListOf g.T.Table.order (IsRowOfEntries g.T.Table.row_of (λ r. ¬ g.T.Table.knows c.args.other.now r) es) c.loop-key.rows.items)
    (walk_end c.args.entries i.0 c.loop-key.key-iterator i.1 (rest_all deref_pair c.loop-key.key-iterator c.next.new.self c.next.result c.in-None.is c.next.ensures.steps)) i.2
