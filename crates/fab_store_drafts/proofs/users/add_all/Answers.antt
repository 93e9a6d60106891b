use Rattle.std.proofs.Common.{◌≡◌, ℕ, List, ◌∷◌, [], ◌++◌, sym}
use Rattle.std.specs.BTreeSet.{contains}
use Rattle.std.specs.Map.Iter.{deref}
use Rattle.std.proofs.lemmas.Map.Iter.{rest_more, rest_all}
use Rattle.fab_reach_base.proofs.fab_lemmas.Adding.{before_none, before_more, tree_adds_one}
use Rattle.fab_reach_base.proofs.fab_lemmas.Walks.{walked, walk_end}
use Rattle.fab_reach_base.specs.fab_names.Orders.{name_cmp}
use Rattle.fab_reach_base.proofs.fab_names.OrderLaws.{name_total, name_exact}
use Rattle.fab_store_drafts.proofs.Gathering.{all_added}
use Rattle.fab_store_drafts.proofs.users.add_all.Goals as goal

pub loop-name-init : goal.loop-name-init
loop-name-init g c = ([], sym c.into_iter-name-iterator.ensures.into_iter_gives.0, before_none (λ (k x : List ℕ). x ≡ k) (contains name_cmp c.args.names.now))

pub loop-name-preserved : goal.loop-name-preserved
loop-name-preserved g c =
    let i = c.loop-name.invariant in (
      i.0 ++ c.in-Some.name.now ∷ [],
      walked c.args.more.now.keys i.0 c.loop-name.name-iterator c.next.new.self c.in-Some.name.now i.1 (rest_more deref c.loop-name.name-iterator c.next.new.self c.next.result c.in-Some.name c.in-Some.is c.next.ensures.steps),
      before_more (λ (k x : List ℕ). x ≡ k) i.0 c.in-Some.name.now (contains name_cmp c.args.names.now) (contains name_cmp c.loop-name.names) (contains name_cmp c.insert.new.self) i.2
          (tree_adds_one name_total name_exact c.loop-name.names c.insert.new.self c.in-Some.name.now c.in_ok-insert.ensures.updates.0),
    )

pub returns : goal.returns
returns g c =
    let i = c.loop-name.invariant in
    all_added c.args.more.now i.0 (contains name_cmp c.args.names.now) (contains name_cmp c.loop-name.names)
    (walk_end c.args.more.now.keys i.0 c.loop-name.name-iterator i.1 (rest_all deref c.loop-name.name-iterator c.next.new.self c.next.result c.in-None.is c.next.ensures.steps)) i.2
