use Rattle.std.proofs.Common.{List, ◌++◌, sym, ap, ◌∙◌, subst}
use Rattle.std.specs.List.Sorted.{IsStrictlySortedBy}
use Rattle.fab_lemmas.proofs.Walks.{walked, walk_end}
use Rattle.fab_looks_tries.proofs.order.in_order.Goals as goal

pub loop-key-init : goal.loop-key-init
loop-key-init g c =
    sym c.into_iter-key-iterator.ensures.into_iter_gives.0
    ∙ ap (λ (xs : List g.row.K.Denot). xs ++ c.into_iter-key-iterator.result) (sym c.new-list.ensures.items)

pub loop-key-preserved : goal.loop-key-preserved
loop-key-preserved g c =
    walked c.args.set.now.keys c.loop-key.list.items c.loop-key.key-iterator c.next.new.self c.in-Some.key.now c.loop-key.invariant c.in-Some.ensures.steps
    ∙ ap (λ (xs : List g.row.K.Denot). xs ++ c.next.new.self) (sym c.in_ok-push.ensures.items)

pub returns-clause-keys : goal.returns-clause-keys
returns-clause-keys g c = walk_end c.args.set.now.keys c.loop-key.list.items c.loop-key.key-iterator c.loop-key.invariant c.in-None.ensures.steps.0

pub returns-clause-sorted : goal.returns-clause-sorted
returns-clause-sorted g c =
    subst (IsStrictlySortedBy g.K.Ord.cmp) (sym (walk_end c.args.set.now.keys c.loop-key.list.items c.loop-key.key-iterator c.loop-key.invariant c.in-None.ensures.steps.0)) c.len-count.ensures.ordered
