use Rattle.std.proofs.Common.{ℕ, List, subst}
use Rattle.std.specs.Ordering.{nat_cmp}
use Rattle.std.specs.FinMap as map
use Rattle.fab_reach_base.specs.fab_lemmas.Lists.{IsListOf}
use Rattle.fab_reach_base.specs.fab_inventory.Holders.{Holds}
use Rattle.fab_reach_base.specs.Adding.{Adds}
use Rattle.fab_world.specs.Worlds.{WorldRows, records_of}
use Rattle.fab_looks_ways.specs.Inner.Gathering.{GroupsEnds}
use Rattle.fab_looks_ways.specs.Pairs.{HasEnds}
use Rattle.fab_looks_ways.proofs.Ended.{ends_are}
use Rattle.fab_looks_ways.proofs.gathering.ends_between.Goals as goal

pub returns : goal.returns
returns g c =
    let listed = subst (λ (v : WorldRows). IsListOf nat_cmp (Holds (map.get v.inventory.ports) c.args.host.now) c.in_ok-ports.ports.items) c.world.view_is c.in_ok-ports.ensures in
    ends_are c.args.policy.now c.args.world.now c.args.id c.args.host.now c.args.volume.now c.in_ok-ports.ports.items c.in_ok-names.names c.new-ends.result c.add_groups.new.ends listed c.in_ok-names.ensures c.new-ends.ensures.empty
    (subst (λ (ps : List ℕ). Adds (GroupsEnds (records_of c.args.world.now) ps c.args.host.now c.in_ok-names.names) (HasEnds c.new-ends.result) (HasEnds c.add_groups.new.ends)) c.deref.ensures.value c.in_ok-add_groups.ensures)
