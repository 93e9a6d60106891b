use Rattle.std.proofs.Common.{◌≡◌, ℕ, List, ◌∷◌, [], ◌++◌, sym, ap, ◌∙◌}
use Rattle.std.specs.FinSet as set
use Rattle.std.specs.Map.Iter.{deref}
use Rattle.std.proofs.lemmas.Map.Iter.{rest_more, rest_all}
use Rattle.fab_lemmas.proofs.Walks.{walked, walk_end}
use Rattle.fab_zoning.specs.Edits.{IsIn}
use Rattle.fab_reach_base.proofs.Adding.{before_none, before_more}
use Rattle.fab_names.specs.Orders.{name_cmp}
use Rattle.fab_reach_index.proofs.Placed.{host_groups_placed}
use Rattle.fab_reach_index.proofs.indexing.add_host_groups.Goals as goal

pub loop-hosts-init : goal.loop-hosts-init
loop-hosts-init g c = (c.host_groups-hosts-items.result, c.host_groups-hosts-items.ensures.host_groups, [], sym c.into_iter-hosts-iterator.ensures.into_iter_gives, before_none (λ k (e : List ℕ × List ℕ). e ≡ (k, c.args.name)) (IsIn name_cmp name_cmp c.args.serving.now))

pub loop-hosts-preserved : goal.loop-hosts-preserved
loop-hosts-preserved g c =
    let i = c.loop-hosts.invariant in (
      i.0,
      i.1,
      i.2 ++ c.in-Some.hosts.now ∷ [],
      walked i.0 i.2 c.loop-hosts.hosts-iterator c.next.new.self c.in-Some.hosts.now i.3 (rest_more deref c.loop-hosts.hosts-iterator c.next.new.self c.next.result c.in-Some.hosts c.in-Some.is c.next.ensures.steps),
      before_more (λ k (e : List ℕ × List ℕ). e ≡ (k, c.args.name)) i.2 c.in-Some.hosts.now (IsIn name_cmp name_cmp c.args.serving.now) (IsIn name_cmp name_cmp c.loop-hosts.serving) (IsIn name_cmp name_cmp c.add_at.new.sets) i.4
          (c.in_ok-add_at.ensures),
    )

pub returns : goal.returns
returns g c =
    let i = c.loop-hosts.invariant in
    host_groups_placed (c.args.name, c.args.group.now) i.2 (IsIn name_cmp name_cmp c.args.serving.now) (IsIn name_cmp name_cmp c.loop-hosts.serving)
    (ap set.from_list (walk_end i.0 i.2 c.loop-hosts.hosts-iterator i.3 (rest_all deref c.loop-hosts.hosts-iterator c.next.new.self c.next.result c.in-None.is c.next.ensures.steps)) ∙ i.1) i.4
