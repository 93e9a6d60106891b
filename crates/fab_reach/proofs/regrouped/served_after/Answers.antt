use Rattle.std.proofs.Common.{ℕ, List}
use Rattle.fab_reach_base.specs.Views.{seen}
use Rattle.fab_reach_index.specs.Indexes.{IsHeldBy}
use Rattle.fab_reach_books.specs.Inner.Sets.{HasName}
use Rattle.fab_reach_books.proofs.SetLoops.{from_nothing}
use Rattle.fab_reach.proofs.Regroups.{ports_are}
use Rattle.fab_reach.proofs.regrouped.served_after.Goals as goal

pub returns : goal.returns
returns g c v d = ports_are v c.args.name.now c.in_ok-hosts.hosts c.add_ports_after.new.ports (c.in_ok-hosts.ensures v d)
    (from_nothing (λ (p : ℕ). (h : List ℕ) × HasName c.in_ok-hosts.hosts h × IsHeldBy v h p) c.new-ports.result c.add_ports_after.new.ports c.new-ports.ensures.empty (c.in_ok-add_ports_after.ensures (seen c.args.before.now) v c.requires d))
