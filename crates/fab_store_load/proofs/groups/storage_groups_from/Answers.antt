use Rattle.std.proofs.Common.{ℕ, List, [], ◌∷◌, ◌++◌, sym, ap}
use Rattle.std.specs.BTreeMap.{get, is_at}
use Rattle.std.specs.Map.{lookup}
use Rattle.fab_names.specs.Orders.{name_cmp}
use Rattle.fab_names.proofs.OrderLaws.{name_total, name_exact}
use Rattle.fab_reach_base.proofs.fab_lemmas.Walks.{walked, walk_end}
use Rattle.fab_store_load.specs.declared.kinds.Head.{Head}
use Rattle.fab_store_load.specs.Assembled.{storage_group_at}
use Rattle.fab_store_load.proofs.Assembling.{nothing_made, not_before, one_made, all_made}
use Rattle.fab_store_load.proofs.groups.storage_groups_from.Goals as goal

pub loop-name-init : goal.loop-name-init
loop-name-init g c = ([], sym c.into_iter-name-iterator.ensures.into_iter_gives.0, nothing_made name_total name_exact (storage_group_at c.args.parts) (get name_cmp c.new-groups.result) (λ q. ap (lookup (is_at (name_cmp q))) c.new-groups.ensures.empty))

pub loop-name-preserved : goal.loop-name-preserved
loop-name-preserved g c =
    let i = c.loop-name.invariant in
    let e : List ℕ × Head = (c.in-Some.name.now, c.in-Some.head.now) in (
      i.0 ++ e ∷ [],
      walked c.args.heads.now.entries i.0 c.loop-name.name-iterator c.next.new.self e i.1 c.in-Some.ensures.steps,
      one_made name_total name_exact (storage_group_at c.args.parts) i.0 e (get name_cmp c.loop-name.groups) (get name_cmp c.insert.new.self) (storage_group_at c.loop-name.left) (storage_group_at c.take_group-group.new.parts) c.take_group-group.result
          (not_before name_total name_exact (storage_group_at c.args.parts) c.args.heads.now.entries i.0 c.loop-name.name-iterator c.next.new.self e i.1 c.in-Some.ensures.steps c.into_iter-name-iterator.ensures.into_iter_gives.5) i.2
          c.take_group-group.ensures.group c.take_group-group.ensures.rest c.in_ok-insert.ensures.updates.0,
    )

-- the same, where a group of this name was there
pub loop-name-preserved-in_ok-insert : goal.loop-name-preserved-in_ok-insert
loop-name-preserved-in_ok-insert g c =
    let i = c.loop-name.invariant in
    let e : List ℕ × Head = (c.in-Some.name.now, c.in-Some.head.now) in (
      i.0 ++ e ∷ [],
      walked c.args.heads.now.entries i.0 c.loop-name.name-iterator c.next.new.self e i.1 c.in-Some.ensures.steps,
      one_made name_total name_exact (storage_group_at c.args.parts) i.0 e (get name_cmp c.loop-name.groups) (get name_cmp c.insert.new.self) (storage_group_at c.loop-name.left) (storage_group_at c.take_group-group.new.parts) c.take_group-group.result
          (not_before name_total name_exact (storage_group_at c.args.parts) c.args.heads.now.entries i.0 c.loop-name.name-iterator c.next.new.self e i.1 c.in-Some.ensures.steps c.into_iter-name-iterator.ensures.into_iter_gives.5) i.2
          c.take_group-group.ensures.group c.take_group-group.ensures.rest c.in_ok-insert.ensures.updates.0,
    )

pub returns : goal.returns
returns g c =
    let i = c.loop-name.invariant in
    all_made name_total name_exact (storage_group_at c.args.parts) c.args.heads.now.entries i.0 (get name_cmp c.loop-name.groups) (storage_group_at c.loop-name.left) (walk_end c.args.heads.now.entries i.0 c.loop-name.name-iterator i.1 c.in-None.ensures.steps.0) i.2
