use Rattle.std.proofs.Common.{◌∷◌, [], ◌++◌, refl, sym, ◌∙◌}
use mathlib.Core.Bool.{true≢false}
use Rattle.std.specs.Map.Iter.{deref}
use Rattle.std.proofs.lemmas.Map.Iter.{rest_more, rest_all}
use Rattle.fab_reach_base.proofs.fab_lemmas.Walks.{walked, walk_end}
use Rattle.fab_store_drafts.specs.There.{IsClearAt}
use Rattle.fab_store_drafts.proofs.Gathering.{all_none, all_more, all_walked, in_walk}
use Rattle.fab_store_drafts.proofs.clashes.are_clear.Goals as goal

pub loop-name-init : goal.loop-name-init
loop-name-init g c = ([], sym c.into_iter-name-iterator.ensures.into_iter_gives.0, all_none (IsClearAt c.args.config.now.mapping))

pub returns-then-not-branch : goal.returns-then-not-branch
returns-then-not-branch g c =
    let i = c.loop-name.invariant in
    let next = rest_more deref c.loop-name.name-iterator c.next.new.self c.next.result c.in-Some.name c.in-Some.is c.next.ensures.steps in (
      λ e. absurd (true≢false (sym e)),
      λ all. absurd (true≢false (sym (c.in_ok-is_clear_at.ensures.1 (all c.in-Some.name.now (in_walk c.args.names.now i.0 c.loop-name.name-iterator c.next.new.self c.in-Some.name.now i.1 next))) ∙ c.if-not-branch.true)),
    )

pub loop-name-preserved : goal.loop-name-preserved
loop-name-preserved g c =
    let i = c.loop-name.invariant in (
      i.0 ++ c.in-Some.name.now ∷ [],
      walked c.args.names.now.keys i.0 c.loop-name.name-iterator c.next.new.self c.in-Some.name.now i.1 (rest_more deref c.loop-name.name-iterator c.next.new.self c.next.result c.in-Some.name c.in-Some.is c.next.ensures.steps),
      all_more (IsClearAt c.args.config.now.mapping) i.0 c.in-Some.name.now i.2 (c.in_ok-is_clear_at.ensures.0 c.if-not-branch.false),
    )

pub returns : goal.returns
returns g c =
    let i = c.loop-name.invariant in (
      λ e. all_walked (IsClearAt c.args.config.now.mapping) c.args.names.now i.0 (walk_end c.args.names.now.keys i.0 c.loop-name.name-iterator i.1 (rest_all deref c.loop-name.name-iterator c.next.new.self c.next.result c.in-None.is c.next.ensures.steps)) i.2,
      λ all. refl,
    )
