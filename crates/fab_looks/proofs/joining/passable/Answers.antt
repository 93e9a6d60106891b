use Rattle.std.proofs.Common.{◌∷◌, [], ◌++◌, sym, ◌∙◌}
use mathlib.Core.Bool.{true≢false}
use Rattle.fab_lemmas.proofs.Walks.{walked, walk_end}
use Rattle.fab_reach_base.specs.Orders.{Has}
use Rattle.fab_reach_base.specs.Views.{seen}
use Rattle.fab_reach_base.proofs.Adding.{before_none, before_more, before_skip}
use Rattle.fab_reach_base.proofs.Gathering.{adds_path}
use Rattle.fab_looks.proofs.Gains.{ByPass, pass_added, passes_are}
use Rattle.fab_looks.proofs.joining.passable.Goals as goal

pub loop-path-init : goal.loop-path-init
loop-path-init g c = (c.new-there.result, c.new-there.ensures.empty, [], sym c.into_iter-path-iterator.ensures.into_iter_gives.0, before_none (ByPass (seen c.args.view.now)) (Has c.new-there.result))

pub loop-path-preserved-in_ok-insert : goal.loop-path-preserved-in_ok-insert
loop-path-preserved-in_ok-insert g c =
    let i = c.loop-path.invariant in (
      i.0,
      i.1,
      i.2 ++ c.in-Some.path.now ∷ [],
      walked c.args.paths.now.keys i.2 c.loop-path.path-iterator c.next.new.self c.in-Some.path.now i.3 c.in-Some.ensures.steps,
      before_more (ByPass (seen c.args.view.now)) i.2 c.in-Some.path.now (Has i.0) (Has c.loop-path.there) (Has c.insert.new.self) i.4
          (pass_added (seen c.args.view.now) c.in-Some.path.now (Has c.loop-path.there) (Has c.insert.new.self) (c.may_pass.ensures.0 c.if-may_pass.true) (adds_path c.loop-path.there c.insert.new.self c.in-Some.path.now c.in_ok-insert.ensures.updates.0)),
    )

pub loop-path-preserved : goal.loop-path-preserved
loop-path-preserved g c =
    let i = c.loop-path.invariant in (
      i.0,
      i.1,
      i.2 ++ c.in-Some.path.now ∷ [],
      walked c.args.paths.now.keys i.2 c.loop-path.path-iterator c.next.new.self c.in-Some.path.now i.3 c.in-Some.ensures.steps,
      before_skip (ByPass (seen c.args.view.now)) i.2 c.in-Some.path.now (Has i.0) (Has c.loop-path.there) i.4 (λ x h. true≢false (sym (c.may_pass.ensures.1 h.1) ∙ c.if-may_pass.false)),
    )

pub returns : goal.returns
returns g c =
    let i = c.loop-path.invariant in
    passes_are (seen c.args.view.now) c.args.paths.now i.2 i.0 c.loop-path.there i.1 (walk_end c.args.paths.now.keys i.2 c.loop-path.path-iterator i.3 c.in-None.ensures.steps.0) i.4
