use Rattle.std.proofs.Common.{◌≡◌, ℕ, List, ◌∷◌, [], ◌++◌, ◌∙◌}
use Rattle.fab_lemmas.proofs.Walks.{walked, walk_end}
use Rattle.fab_reach_base.proofs.Adding.{before_more}
use Rattle.fab_reach_books.specs.Inner.Sets.{HasName}
use Rattle.fab_reach_books.proofs.SetLoops.{adds_name, names_added}
use Rattle.fab_reach_moves.proofs.groups.add_names.Goals as goal

pub loop-name-preserved : goal.loop-name-preserved
loop-name-preserved g c =
    let i = c.loop-name.invariant in (
      i.0 ++ c.in-Some.name.now ∷ [],
      walked c.into_iter-name-iterator.result i.0 c.loop-name.name-iterator c.next.new.self c.in-Some.name.now i.1 c.in-Some.ensures.steps,
      before_more (λ k (n : List ℕ). n ≡ k) i.0 c.in-Some.name.now (HasName c.args.names.now) (HasName c.loop-name.names) (HasName c.insert.new.self) i.2
          (adds_name c.loop-name.names c.insert.new.self c.in-Some.name.now c.in_ok-insert.ensures.updates.0),
    )

pub returns : goal.returns
returns g c =
    let i = c.loop-name.invariant in
    names_added c.args.these.now i.0 (HasName c.args.names.now) (HasName c.loop-name.names)
    (walk_end c.into_iter-name-iterator.result i.0 c.loop-name.name-iterator i.1 c.in-None.ensures.steps.0 ∙ c.into_iter-name-iterator.ensures.into_iter_gives.0) i.2
