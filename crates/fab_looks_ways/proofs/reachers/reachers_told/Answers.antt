use Rattle.fab_looks_ways.proofs.Offered.{reachers_are}
use Rattle.fab_looks_ways.proofs.reachers.reachers_told.Goals as goal

pub reachers_of-requires : goal.reachers_of-requires
reachers_of-requires g c = record { there = λ h n at. let s = c.in_ok-hosts.ensures.host_is_own h n at in (s.0, s.1) }

pub returns : goal.returns
returns g c =
    reachers_are c.args.policy.now c.args.world.now c.args.id c.args.volume.now c.in_ok-hosts.hosts c.in_ok-groups.groups c.in_ok-reachers.reachers.items c.len-count.ensures.ordered c.in_ok-hosts.ensures c.in_ok-groups.ensures c.in_ok-reachers.ensures
