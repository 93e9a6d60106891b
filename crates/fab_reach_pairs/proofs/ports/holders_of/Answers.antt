use Rattle.std.proofs.Common.{◌∷◌, [], ◌++◌, sym}
use Rattle.fab_lemmas.proofs.Walks.{walked, walk_end}
use Rattle.fab_reach_base.proofs.Adding.{before_none, before_more}
use Rattle.fab_reach_pairs.specs.Owning.{Owns, IsHeldAfter}
use Rattle.fab_reach_pairs.proofs.Owning.{holders_are}
use Rattle.fab_reach_pairs.proofs.ports.holders_of.Goals as goal

pub loop-port-init : goal.loop-port-init
loop-port-init g c = (c.new-owners.result, c.new-owners.ensures.empty, [], sym c.into_iter-port-iterator.ensures.into_iter_gives.0, λ v t. before_none (IsHeldAfter v) (Owns c.new-owners.result))

pub loop-port-preserved : goal.loop-port-preserved
loop-port-preserved g c =
    let i = c.loop-port.invariant in (
      i.0,
      i.1,
      i.2 ++ c.in-Some.port.now ∷ [],
      walked c.args.ports.now.keys i.2 c.loop-port.port-iterator c.next.new.self c.in-Some.port.now i.3 c.in-Some.ensures.steps,
      λ v t. before_more (IsHeldAfter v) i.2 c.in-Some.port.now (Owns i.0) (Owns c.loop-port.owners) (Owns c.add_held.new.owners) (i.4 v t) (c.in_ok-add_held.ensures v t),
    )

pub returns : goal.returns
returns g c v told among =
    let i = c.loop-port.invariant in
    holders_are v c.args.ports.now i.2 i.0 c.loop-port.owners among i.1 (walk_end c.args.ports.now.keys i.2 c.loop-port.port-iterator i.3 c.in-None.ensures.steps.0) (i.4 v told)
