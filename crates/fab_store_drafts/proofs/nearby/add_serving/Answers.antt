use Rattle.std.proofs.Common.{ℕ, List, ◌∷◌, [], ◌++◌, sym}
use Rattle.std.specs.BTreeSet.{contains}
use Rattle.std.specs.Map.Iter.{deref}
use Rattle.std.proofs.lemmas.Map.Iter.{rest_more, rest_all}
use Rattle.fab_reach_base.proofs.fab_lemmas.Adding.{before_none, before_more, before_all}
use Rattle.fab_reach_base.proofs.fab_lemmas.Walks.{walked, walk_end}
use Rattle.fab_reach_base.specs.fab_names.Orders.{name_cmp}
use Rattle.fab_reach_base.proofs.fab_names.OrderLaws.{name_total, name_exact}
use Rattle.fab_store_drafts.specs.Users.{IsUse}
use Rattle.fab_store_drafts.specs.declared.uses.Used.TheVariants.{HostGroup}
use Rattle.fab_store_drafts.proofs.nearby.add_serving.Goals as goal

pub loop-hosts-init : goal.loop-hosts-init
loop-hosts-init g c = ([], sym c.into_iter-hosts-iterator.ensures.into_iter_gives.0, before_none (λ (k n : List ℕ). IsUse c.args.users.now (HostGroup k, n)) (contains name_cmp c.args.serving.now))

pub loop-hosts-preserved : goal.loop-hosts-preserved
loop-hosts-preserved g c =
    let i = c.loop-hosts.invariant in (
      i.0 ++ c.in-Some.hosts.now ∷ [],
      walked c.args.near.now.keys i.0 c.loop-hosts.hosts-iterator c.next.new.self c.in-Some.hosts.now i.1 (rest_more deref c.loop-hosts.hosts-iterator c.next.new.self c.next.result c.in-Some.hosts c.in-Some.is c.next.ensures.steps),
      before_more (λ (k n : List ℕ). IsUse c.args.users.now (HostGroup k, n)) i.0 c.in-Some.hosts.now (contains name_cmp c.args.serving.now) (contains name_cmp c.loop-hosts.serving) (contains name_cmp c.add_to.new.names) i.2 c.in_ok-add_to.ensures,
    )

pub returns : goal.returns
returns g c =
    let i = c.loop-hosts.invariant in
    before_all (λ (k n : List ℕ). IsUse c.args.users.now (HostGroup k, n)) name_total name_exact c.args.near.now i.0 (contains name_cmp c.args.serving.now) (contains name_cmp c.loop-hosts.serving)
    (walk_end c.args.near.now.keys i.0 c.loop-hosts.hosts-iterator i.1 (rest_all deref c.loop-hosts.hosts-iterator c.next.new.self c.next.result c.in-None.is c.next.ensures.steps)) i.2
