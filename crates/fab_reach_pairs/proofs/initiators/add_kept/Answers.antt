use Rattle.std.proofs.Common.{◌≡◌, ℕ, List, ◌∷◌, [], ◌++◌, ◌∙◌, false}
use Rattle.fab_lemmas.proofs.Walks.{walked, walk_end}
use Rattle.fab_reach_base.proofs.Adding.{before_more}
use Rattle.std.specs.BTreeSet.{contains}
use Rattle.fab_names.specs.Orders.{name_cmp}
use Rattle.fab_reach_books.specs.Inner.Sets.{HasName}
use Rattle.fab_reach_pairs.proofs.OfInitiators.{kept_names}
use Rattle.fab_reach_pairs.proofs.initiators.add_kept.Goals as goal

pub loop-name-preserved : goal.loop-name-preserved
loop-name-preserved g c =
    let i = c.loop-name.invariant in (
      i.0 ++ c.in-Some.name.now ∷ [],
      walked c.into_iter-name-iterator.result i.0 c.loop-name.name-iterator c.next.new.self c.in-Some.name.now i.1 c.in-Some.ensures.steps,
      before_more (λ k (n : List ℕ). (n ≡ k) × (contains name_cmp c.args.touched.now n ≡ false)) i.0 c.in-Some.name.now (HasName c.args.names.now) (HasName c.loop-name.names) (HasName c.add_if_kept.new.names) i.2
          (c.in_ok-add_if_kept.ensures),
    )

pub returns : goal.returns
returns g c =
    let i = c.loop-name.invariant in
    kept_names c.args.touched.now c.args.groups.now i.0 (HasName c.args.names.now) (HasName c.loop-name.names)
    (walk_end c.into_iter-name-iterator.result i.0 c.loop-name.name-iterator i.1 c.in-None.ensures.steps.0 ∙ c.into_iter-name-iterator.ensures.into_iter_gives.0) i.2
