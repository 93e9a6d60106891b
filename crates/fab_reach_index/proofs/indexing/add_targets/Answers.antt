use Rattle.std.proofs.Common.{◌≡◌, ℕ, List, ◌∷◌, [], ◌++◌, sym, ap, ◌∙◌}
use Rattle.std.specs.FinSet as set
use Rattle.std.specs.Map.Iter.{deref}
use Rattle.std.proofs.lemmas.Map.Iter.{rest_more, rest_all}
use Rattle.fab_lemmas.proofs.Walks.{walked, walk_end}
use Rattle.fab_zoning.specs.Edits.{IsIn}
use Rattle.fab_reach_base.proofs.Adding.{before_none, before_more}
use Rattle.std.specs.Ordering.{nat_cmp}
use Rattle.fab_names.specs.Orders.{name_cmp}
use Rattle.fab_reach_index.proofs.Placed.{targets_placed}
use Rattle.fab_reach_index.proofs.indexing.add_targets.Goals as goal

pub loop-target-init : goal.loop-target-init
loop-target-init g c = (c.targets-target-items.result, c.targets-target-items.ensures.targets, [], sym c.into_iter-target-iterator.ensures.into_iter_gives, before_none (λ k (e : ℕ × List ℕ). e ≡ (k, c.args.name)) (IsIn nat_cmp name_cmp c.args.targeted.now))

pub loop-target-preserved : goal.loop-target-preserved
loop-target-preserved g c =
    let i = c.loop-target.invariant in (
      i.0,
      i.1,
      i.2 ++ c.in-Some.target.now ∷ [],
      walked i.0 i.2 c.loop-target.target-iterator c.next.new.self c.in-Some.target.now i.3 (rest_more deref c.loop-target.target-iterator c.next.new.self c.next.result c.in-Some.target c.in-Some.is c.next.ensures.steps),
      before_more (λ k (e : ℕ × List ℕ). e ≡ (k, c.args.name)) i.2 c.in-Some.target.now (IsIn nat_cmp name_cmp c.args.targeted.now) (IsIn nat_cmp name_cmp c.loop-target.targeted) (IsIn nat_cmp name_cmp c.add_at.new.sets) i.4
          (c.in_ok-add_at.ensures),
    )

pub returns : goal.returns
returns g c =
    let i = c.loop-target.invariant in
    targets_placed (c.args.name, c.args.group.now) i.2 (IsIn nat_cmp name_cmp c.args.targeted.now) (IsIn nat_cmp name_cmp c.loop-target.targeted)
    (ap set.from_list (walk_end i.0 i.2 c.loop-target.target-iterator i.3 (rest_all deref c.loop-target.target-iterator c.next.new.self c.next.result c.in-None.is c.next.ensures.steps)) ∙ i.1) i.4
