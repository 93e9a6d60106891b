use Rattle.std.proofs.Common.{◌∙◌, [], ◌∷◌, ◌++◌, refl}
use Rattle.fab_reach_base.specs.Views.{seen}
use Rattle.fab_lemmas.proofs.Walks.{walked, walk_end}
use Rattle.fab_reach_base.proofs.Adding.{before_none, before_more}
use Rattle.fab_reach_moves.specs.Inner.Changing.{IsPortChangedBy, world_at}
use Rattle.fab_reach_books.specs.Inner.Sets.{HasPortIn}
use Rattle.fab_reach_moves.proofs.Changed.{by_keys}
use Rattle.fab_reach_moves.proofs.changes.add_changed.Goals as goal

pub loop-key-init : goal.loop-key-init
loop-key-init g c = ([], refl, λ v gone come d a b. before_none (IsPortChangedBy (seen c.args.before.now) (world_at c.args.is_before (seen c.args.before.now) v)) (HasPortIn c.args.ports.now))

pub loop-key-preserved : goal.loop-key-preserved
loop-key-preserved g c =
    let i = c.loop-key.invariant in (
      i.0 ++ c.in-Some.key.now ∷ [],
      walked c.into_iter-key-iterator.result i.0 c.loop-key.key-iterator c.next.new.self c.in-Some.key.now i.1 c.in-Some.ensures.steps,
      λ v gone come d a b. before_more (IsPortChangedBy (seen c.args.before.now) (world_at c.args.is_before (seen c.args.before.now) v)) i.0 c.in-Some.key.now (HasPortIn c.args.ports.now) (HasPortIn c.loop-key.ports) (HasPortIn c.add_changed_by.new.ports) (i.2 v gone come d a b) (c.in_ok-add_changed_by.ensures v gone come d a b),
    )

pub returns : goal.returns
returns g c v gone come d a b =
    let i = c.loop-key.invariant in
    by_keys (seen c.args.before.now) (world_at c.args.is_before (seen c.args.before.now) v) c.args.keys.now i.0 (HasPortIn c.args.ports.now) (HasPortIn c.loop-key.ports)
    (walk_end c.into_iter-key-iterator.result i.0 c.loop-key.key-iterator i.1 c.in-None.ensures.steps.0 ∙ c.into_iter-key-iterator.ensures.into_iter_gives.0) (i.2 v gone come d a b)
