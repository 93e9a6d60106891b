use Rattle.std.proofs.Common.{ℕ, ◌∷◌, [], ◌++◌, sym, ap, ◌∙◌}
use Rattle.std.specs.FinSet as set
use Rattle.std.specs.Map.Iter.{deref}
use Rattle.std.specs.Option.{option_copied}
use Rattle.std.specs.Ordering.{nat_cmp}
use Rattle.std.proofs.lemmas.Map.Iter.{rest_more, rest_all}
use Rattle.fab_lemmas.proofs.Walks.{walked, walk_end}
use Rattle.fab_lemmas.specs.MapsOfSets.{in_tree}
use Rattle.fab_reach_base.proofs.Adding.{before_none, before_more}
use Rattle.fab_reach_books.specs.Inner.Sets.{HasPortIn}
use Rattle.fab_reach_moves.proofs.ListsAfter.{IfLeft, ports_left}
use Rattle.fab_reach_moves.proofs.lists_after.add_targets_but.Goals as goal

pub loop-target-init : goal.loop-target-init
loop-target-init g c = (c.targets-target-items.result, c.targets-target-items.ensures.targets, [], sym c.into_iter-target-iterator.ensures.into_iter_gives, before_none (IfLeft (λ (x : ℕ). in_tree nat_cmp (option_copied c.args.gone) x)) (HasPortIn c.args.ports.now))

pub loop-target-preserved : goal.loop-target-preserved
loop-target-preserved g c =
    let i = c.loop-target.invariant in (
      i.0,
      i.1,
      i.2 ++ c.in-Some.target.now ∷ [],
      walked i.0 i.2 c.loop-target.target-iterator c.next.new.self c.in-Some.target.now i.3 (rest_more deref c.loop-target.target-iterator c.next.new.self c.next.result c.in-Some.target c.in-Some.is c.next.ensures.steps),
      before_more (IfLeft (λ (x : ℕ). in_tree nat_cmp (option_copied c.args.gone) x)) i.2 c.in-Some.target.now (HasPortIn c.args.ports.now) (HasPortIn c.loop-target.ports) (HasPortIn c.add_target_unless_gone.new.ports) i.4 c.in_ok-add_target_unless_gone.ensures,
    )

pub returns : goal.returns
returns g c =
    let i = c.loop-target.invariant in
    ports_left (λ (x : ℕ). in_tree nat_cmp (option_copied c.args.gone) x) c.args.group.now.targets i.2 (HasPortIn c.args.ports.now) (HasPortIn c.loop-target.ports)
    (ap set.from_list (walk_end i.0 i.2 c.loop-target.target-iterator i.3 (rest_all deref c.loop-target.target-iterator c.next.new.self c.next.result c.in-None.is c.next.ensures.steps)) ∙ i.1) i.4
