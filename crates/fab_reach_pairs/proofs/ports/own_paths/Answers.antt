use Rattle.std.proofs.Common.{◌∷◌, [], ◌++◌, sym, ◌∙◌}
use mathlib.Core.Bool.{true≢false}
use Rattle.fab_lemmas.proofs.Walks.{walked, walk_end}
use Rattle.fab_reach_base.specs.Orders.{Has}
use Rattle.fab_reach_base.proofs.Adding.{before_none, before_more, before_skip}
use Rattle.fab_reach_base.proofs.Gathering.{adds_path}
use Rattle.fab_reach_pairs.proofs.Owning.{ByOwn, own_added, own_are}
use Rattle.fab_reach_pairs.proofs.ports.own_paths.Goals as goal

pub loop-path-init : goal.loop-path-init
loop-path-init g c = (c.new-own.result, c.new-own.ensures.empty, [], sym c.into_iter-path-iterator.ensures.into_iter_gives.0, before_none (ByOwn c.args.owners.now c.args.host.now) (Has c.new-own.result))

pub returns : goal.returns
returns g c =
    let i = c.loop-path.invariant in
    own_are c.args.paths.now c.args.owners.now c.args.host.now i.2 i.0 c.loop-path.own i.1 (walk_end c.args.paths.now.keys i.2 c.loop-path.path-iterator i.3 c.in-None.ensures.steps.0) i.4

pub loop-path-preserved-in_ok-insert : goal.loop-path-preserved-in_ok-insert
loop-path-preserved-in_ok-insert g c =
    let i = c.loop-path.invariant in (
      i.0,
      i.1,
      i.2 ++ c.in-Some.path.now ∷ [],
      walked c.args.paths.now.keys i.2 c.loop-path.path-iterator c.next.new.self c.in-Some.path.now i.3 c.in-Some.ensures.steps,
      before_more (ByOwn c.args.owners.now c.args.host.now) i.2 c.in-Some.path.now (Has i.0) (Has c.loop-path.own) (Has c.insert.new.self) i.4
          (own_added c.args.owners.now c.args.host.now c.in-Some.path.now (Has c.loop-path.own) (Has c.insert.new.self) (sym c.contains.ensures ∙ c.if-contains.true) (adds_path c.loop-path.own c.insert.new.self c.in-Some.path.now c.in_ok-insert.ensures.updates.0)),
    )

pub loop-path-preserved : goal.loop-path-preserved
loop-path-preserved g c =
    let i = c.loop-path.invariant in (
      i.0,
      i.1,
      i.2 ++ c.in-Some.path.now ∷ [],
      walked c.args.paths.now.keys i.2 c.loop-path.path-iterator c.next.new.self c.in-Some.path.now i.3 c.in-Some.ensures.steps,
      before_skip (ByOwn c.args.owners.now c.args.host.now) i.2 c.in-Some.path.now (Has i.0) (Has c.loop-path.own) i.4 (λ x h. true≢false (sym h.1 ∙ sym c.contains.ensures ∙ c.if-contains.false)),
    )
