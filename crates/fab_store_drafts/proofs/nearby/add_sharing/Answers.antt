use Rattle.std.proofs.Common.{ℕ, List, ◌∷◌, [], ◌++◌, sym, ap, ◌∙◌}
use Rattle.std.specs.BTreeSet.{contains}
use Rattle.std.specs.FinSet as set
use Rattle.std.specs.Map.Iter.{deref}
use Rattle.std.proofs.lemmas.Map.Iter.{rest_more, rest_all}
use Rattle.fab_reach_base.proofs.fab_lemmas.Adding.{before_none, before_more}
use Rattle.fab_reach_base.proofs.fab_lemmas.Walks.{walked, walk_end}
use Rattle.fab_reach_base.specs.fab_names.Orders.{name_cmp}
use Rattle.fab_store_drafts.specs.Users.{IsUse}
use Rattle.fab_store_drafts.specs.declared.uses.Used.TheVariants.{Host}
use Rattle.fab_store_drafts.proofs.Gathering.{before_seen}
use Rattle.fab_store_drafts.proofs.nearby.add_sharing.Goals as goal

pub loop-host-init : goal.loop-host-init
loop-host-init g c = (c.hosts-host-items.result, c.hosts-host-items.ensures.hosts, [], sym c.into_iter-host-iterator.ensures.into_iter_gives, before_none (λ (h k : List ℕ). IsUse c.args.users.now (Host h, k)) (contains name_cmp c.args.near.now))

pub loop-host-preserved : goal.loop-host-preserved
loop-host-preserved g c =
    let i = c.loop-host.invariant in (
      i.0,
      i.1,
      i.2 ++ c.in-Some.host.now ∷ [],
      walked i.0 i.2 c.loop-host.host-iterator c.next.new.self c.in-Some.host.now i.3 (rest_more deref c.loop-host.host-iterator c.next.new.self c.next.result c.in-Some.host c.in-Some.is c.next.ensures.steps),
      before_more (λ (h k : List ℕ). IsUse c.args.users.now (Host h, k)) i.2 c.in-Some.host.now (contains name_cmp c.args.near.now) (contains name_cmp c.loop-host.near) (contains name_cmp c.add_to.new.names) i.4 c.in_ok-add_to.ensures,
    )

pub returns : goal.returns
returns g c =
    let i = c.loop-host.invariant in
    before_seen (λ (h k : List ℕ). IsUse c.args.users.now (Host h, k)) c.args.hosts.now.hosts i.2 (contains name_cmp c.args.near.now) (contains name_cmp c.loop-host.near)
    (ap set.from_list (walk_end i.0 i.2 c.loop-host.host-iterator i.3 (rest_all deref c.loop-host.host-iterator c.next.new.self c.next.result c.in-None.is c.next.ensures.steps)) ∙ i.1) i.4
