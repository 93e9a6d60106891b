use Rattle.std.proofs.Common.{◌++◌, sym, ap, ◌∙◌}
use Rattle.std.specs.Map.Iter.{deref_pair}
use Rattle.std.proofs.lemmas.Map.Iter.{rest_more, rest_all}
use Rattle.fab_reach_base.proofs.fab_lemmas.Walks.{walked, walk_end}
use Rattle.fab_desk_base.proofs.listed.units_listed.Goals as goal

pub loop-unit-init : goal.loop-unit-init
loop-unit-init g c =
    sym c.into_iter-unit-iterator.ensures.into_iter_gives
    ∙ ap (λ xs. xs ++ c.into_iter-unit-iterator.result) (sym c.new-items.ensures.items)

pub loop-unit-preserved : goal.loop-unit-preserved
loop-unit-preserved g c =
    walked c.args.units c.loop-unit.items.items c.loop-unit.unit-iterator c.next.new.self (c.in-Some.unit.now, c.in-Some.volume.now) c.loop-unit.invariant (rest_more deref_pair c.loop-unit.unit-iterator c.next.new.self c.next.result (c.in-Some.unit, c.in-Some.volume) c.in-Some.is c.next.ensures.steps)
    ∙ ap (λ xs. xs ++ c.next.new.self) (sym c.in_ok-push.ensures.items)

pub returns : goal.returns
returns g c = walk_end c.args.units c.loop-unit.items.items c.loop-unit.unit-iterator c.loop-unit.invariant (rest_all deref_pair c.loop-unit.unit-iterator c.next.new.self c.next.result c.in-None.is c.next.ensures.steps)
