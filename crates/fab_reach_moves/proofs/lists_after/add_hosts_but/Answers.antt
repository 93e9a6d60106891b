use Rattle.std.proofs.Common.{ℕ, List, ◌∷◌, [], ◌++◌, sym, ap, ◌∙◌}
use Rattle.std.specs.FinSet as set
use Rattle.std.specs.Map.Iter.{deref}
use Rattle.std.specs.Option.{option_copied}
use Rattle.std.proofs.lemmas.Map.Iter.{rest_more, rest_all}
use Rattle.fab_lemmas.proofs.Walks.{walked, walk_end}
use Rattle.fab_lemmas.specs.MapsOfSets.{in_tree}
use Rattle.fab_names.specs.Orders.{name_cmp}
use Rattle.fab_reach_base.proofs.Adding.{before_none, before_more}
use Rattle.fab_reach_books.specs.Inner.Sets.{HasName}
use Rattle.fab_reach_moves.proofs.ListsAfter.{IfLeft, names_left}
use Rattle.fab_reach_moves.proofs.lists_after.add_hosts_but.Goals as goal

pub loop-name-init : goal.loop-name-init
loop-name-init g c = (c.hosts-name-items.result, c.hosts-name-items.ensures.hosts, [], sym c.into_iter-name-iterator.ensures.into_iter_gives, before_none (IfLeft (λ (x : List ℕ). in_tree name_cmp (option_copied c.args.gone) x)) (HasName c.args.names.now))

pub loop-name-preserved : goal.loop-name-preserved
loop-name-preserved g c =
    let i = c.loop-name.invariant in (
      i.0,
      i.1,
      i.2 ++ c.in-Some.name.now ∷ [],
      walked i.0 i.2 c.loop-name.name-iterator c.next.new.self c.in-Some.name.now i.3 (rest_more deref c.loop-name.name-iterator c.next.new.self c.next.result c.in-Some.name c.in-Some.is c.next.ensures.steps),
      before_more (IfLeft (λ (x : List ℕ). in_tree name_cmp (option_copied c.args.gone) x)) i.2 c.in-Some.name.now (HasName c.args.names.now) (HasName c.loop-name.names) (HasName c.add_unless_gone.new.names) i.4 c.in_ok-add_unless_gone.ensures,
    )

pub returns : goal.returns
returns g c =
    let i = c.loop-name.invariant in
    names_left (λ (x : List ℕ). in_tree name_cmp (option_copied c.args.gone) x) c.args.group.now.hosts i.2 (HasName c.args.names.now) (HasName c.loop-name.names)
    (ap set.from_list (walk_end i.0 i.2 c.loop-name.name-iterator i.3 (rest_all deref c.loop-name.name-iterator c.next.new.self c.next.result c.in-None.is c.next.ensures.steps)) ∙ i.1) i.4
