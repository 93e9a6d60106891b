use Rattle.std.proofs.Common.{◌∷◌, [], ◌++◌, sym, ◌∙◌}
use mathlib.Core.Bool.{true≢false}
use Rattle.std.specs.Map.Iter.{deref_pair}
use Rattle.std.proofs.lemmas.Map.Iter.{rest_more, rest_all}
use Rattle.fab_reach_base.proofs.fab_lemmas.Walks.{walked, walk_end}
use Rattle.fab_looks.specs.Told.{SeesHost}
use Rattle.fab_looks.proofs.Sights.{seen_none, seen_skip, seen_more, seen_all, empty_get}
use Rattle.fab_looks.proofs.seeing.seen_hosts.Goals as goal

pub loop-host-init : goal.loop-host-init
loop-host-init g c = ([], sym c.into_iter-host-iterator.ensures.into_iter_gives.0, seen_none (SeesHost c.args.policy.now c.args.world.now c.args.id) c.new-seen.result (empty_get c.new-seen.result c.new-seen.ensures.empty))

pub loop-host-preserved-in_ok-insert : goal.loop-host-preserved-in_ok-insert
loop-host-preserved-in_ok-insert g c =
    let i = c.loop-host.invariant in (
      i.0 ++ (c.in-Some.host.now, c.in-Some.counts.now) ∷ [],
      walked c.args.reachers.now.entries i.0 c.loop-host.host-iterator c.next.new.self (c.in-Some.host.now, c.in-Some.counts.now) i.1 (rest_more deref_pair c.loop-host.host-iterator c.next.new.self c.next.result (c.in-Some.host, c.in-Some.counts) c.in-Some.is c.next.ensures.steps),
      seen_more (SeesHost c.args.policy.now c.args.world.now c.args.id) i.0 (c.in-Some.host.now, c.in-Some.counts.now) c.loop-host.seen c.insert.new.self (c.sees_host.ensures.0 c.if-sees_host.true) c.in_ok-insert.ensures.updates.0 i.2,
    )

pub loop-host-preserved : goal.loop-host-preserved
loop-host-preserved g c =
    let i = c.loop-host.invariant in (
      i.0 ++ (c.in-Some.host.now, c.in-Some.counts.now) ∷ [],
      walked c.args.reachers.now.entries i.0 c.loop-host.host-iterator c.next.new.self (c.in-Some.host.now, c.in-Some.counts.now) i.1 (rest_more deref_pair c.loop-host.host-iterator c.next.new.self c.next.result (c.in-Some.host, c.in-Some.counts) c.in-Some.is c.next.ensures.steps),
      seen_skip (SeesHost c.args.policy.now c.args.world.now c.args.id) i.0 (c.in-Some.host.now, c.in-Some.counts.now) c.loop-host.seen (λ s. true≢false (sym (c.sees_host.ensures.1 s) ∙ c.if-sees_host.false)) i.2,
    )

pub returns : goal.returns
returns g c =
    let i = c.loop-host.invariant in
    seen_all (SeesHost c.args.policy.now c.args.world.now c.args.id) c.args.reachers.now c.loop-host.seen i.0 c.into_iter-host-iterator.ensures.into_iter_gives.5
    (walk_end c.args.reachers.now.entries i.0 c.loop-host.host-iterator i.1 (rest_all deref_pair c.loop-host.host-iterator c.next.new.self c.next.result c.in-None.is c.next.ensures.steps)) i.2
