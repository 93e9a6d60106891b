use Rattle.std.proofs.Common.{[], ◌∷◌, ◌++◌, sym}
use Rattle.fab_desk_machine.specs.fab_desk_base.Tenants.{Has}
use Rattle.fab_lemmas.proofs.Walks.{walked, walk_end}
use Rattle.fab_looks_tries.specs.Hosts.{IsOnOneFabric, IsWithoutPath}
use Rattle.fab_looks_tries.proofs.Leaving.{By, by_added, kept_are, none_from, none_to, one_from, one_to}
use Rattle.fab_reach_base.proofs.Adding.{before_more, before_none}
use Rattle.fab_looks_tries.proofs.left.left_of.Goals as goal

pub loop-host-init : goal.loop-host-init
loop-host-init g c = (
  c.new-on_one.result,
  c.new-without.result,
  c.new-on_one.ensures.empty,
  c.new-without.ensures.empty,
  [],
  sym c.into_iter-host-iterator.ensures.into_iter_gives.0,
  λ v stands. (before_none (By (IsOnOneFabric v)) (Has c.new-on_one.result), before_none (By (IsWithoutPath v)) (Has c.new-without.result)),
)

pub loop-host-preserved : goal.loop-host-preserved
loop-host-preserved g c =
    let i = c.loop-host.invariant in
    let host = c.in-Some.host.now in
    let over = c.in_ok-over.over in (
      i.0,
      i.1,
      i.2,
      i.3,
      i.4 ++ host ∷ [],
      walked c.args.hosts.now.keys i.4 c.loop-host.host-iterator c.next.new.self host i.5 c.in-Some.ensures.steps,
      λ v stands.
          let told = c.in_ok-over.ensures v stands in
          let both = i.6 v stands in (
            before_more (By (IsOnOneFabric v)) i.4 host (Has i.0) (Has c.loop-host.on_one) (Has c.add_if.new.names) both.0
                (by_added (IsOnOneFabric v) host c.is_one.result (Has c.loop-host.on_one) (Has c.add_if.new.names)
                (λ h. one_from v host over.a over.b told (c.is_one.ensures.0 h)) (λ h. c.is_one.ensures.1 (one_to v host over.a over.b told h)) c.in_ok-add_if.ensures),
            before_more (By (IsWithoutPath v)) i.4 host (Has i.1) (Has c.loop-host.without) (Has c.add_if-in-loop-host.new.names) both.1
                (by_added (IsWithoutPath v) host c.is_none.result (Has c.loop-host.without) (Has c.add_if-in-loop-host.new.names)
                (λ h. none_from v host over.a over.b told (c.is_none.ensures.0 h)) (λ h. c.is_none.ensures.1 (none_to v host over.a over.b told h)) c.in_ok-add_if-2.ensures),
          ),
    )

pub returns : goal.returns
returns g c v stands =
    let i = c.loop-host.invariant in
    let is = walk_end c.args.hosts.now.keys i.4 c.loop-host.host-iterator i.5 c.in-None.ensures.steps.0 in
    let both = i.6 v stands in (
      kept_are (IsOnOneFabric v) c.args.hosts.now i.0 c.loop-host.on_one i.4 is i.2 both.0,
      kept_are (IsWithoutPath v) c.args.hosts.now i.1 c.loop-host.without i.4 is i.3 both.1,
    )
