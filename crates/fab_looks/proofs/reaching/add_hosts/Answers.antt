use Rattle.std.proofs.Common.{◌∷◌, [], ◌++◌, sym}
use Rattle.std.specs.Map.Iter.{deref_pair}
use Rattle.std.proofs.lemmas.Map.Iter.{rest_more, rest_all}
use Rattle.std.proofs.lemmas.Map.Views.{btree_map_get_iff}
use Rattle.fab_names.proofs.OrderLaws.{name_total, name_exact}
use Rattle.fab_lemmas.proofs.Walks.{walked, walk_end}
use Rattle.fab_reach_base.specs.Views.{seen}
use Rattle.fab_looks.proofs.Services.{is_listed, logins_at}
use Rattle.fab_looks.proofs.ReachersTold.{among_none, among_more, all_hosts}
use Rattle.fab_looks.proofs.reaching.add_hosts.Goals as goal

pub loop-host-init : goal.loop-host-init
loop-host-init g c = ([], sym c.into_iter-host-iterator.ensures.into_iter_gives.0, among_none (seen c.args.view.now) c.args.volume.now c.args.reachers.now)

pub add_host-requires-clause-ports : goal.add_host-requires-clause-ports
add_host-requires-clause-ports g c =
    let i = c.loop-host.invariant in
    logins_at (seen c.args.view.now) c.args.served.now c.args.logins.now c.in-Some.host.now c.in-Some.ports.now c.requires.logins
    ((btree_map_get_iff name_total name_exact c.args.logins.now c.into_iter-host-iterator.ensures.into_iter_gives.5 c.in-Some.host.now c.in-Some.ports.now).1
    (is_listed c.args.logins.now.entries i.0 c.loop-host.host-iterator c.next.new.self (c.in-Some.host.now, c.in-Some.ports.now) i.1 (rest_more deref_pair c.loop-host.host-iterator c.next.new.self c.next.result (c.in-Some.host, c.in-Some.ports) c.in-Some.is c.next.ensures.steps)))

pub loop-host-preserved : goal.loop-host-preserved
loop-host-preserved g c =
    let i = c.loop-host.invariant in (
      i.0 ++ (c.in-Some.host.now, c.in-Some.ports.now) ∷ [],
      walked c.args.logins.now.entries i.0 c.loop-host.host-iterator c.next.new.self (c.in-Some.host.now, c.in-Some.ports.now) i.1 (rest_more deref_pair c.loop-host.host-iterator c.next.new.self c.next.result (c.in-Some.host, c.in-Some.ports) c.in-Some.is c.next.ensures.steps),
      among_more (seen c.args.view.now) c.args.volume.now i.0 (c.in-Some.host.now, c.in-Some.ports.now) c.args.reachers.now c.loop-host.reachers c.add_host.new.reachers i.2 c.in_ok-add_host.ensures,
    )

pub returns : goal.returns
returns g c =
    let i = c.loop-host.invariant in
    all_hosts (seen c.args.view.now) c.args.volume.now c.args.served.now c.args.logins.now i.0 c.args.reachers.now c.loop-host.reachers c.requires.served c.requires.logins c.into_iter-host-iterator.ensures.into_iter_gives.5
    (walk_end c.args.logins.now.entries i.0 c.loop-host.host-iterator i.1 (rest_all deref_pair c.loop-host.host-iterator c.next.new.self c.next.result c.in-None.is c.next.ensures.steps)) i.2
