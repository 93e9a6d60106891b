use Rattle.std.proofs.Common.{◌≡◌, true}
use Rattle.std.specs.FinMap as map
use Rattle.std.specs.FinSet as set
use Rattle.fab_reach_base.specs.fab_mapping_base.Groups.{HostGroupRows}
use Rattle.fab_store_rows.proofs.RowsFound.{found_has, test_is}
use Rattle.fab_store_rows.proofs.standing.has_host.Goals as goal

pub returns-in-Some : goal.returns-in-Some
returns-in-Some g c =
    found_has (λ (x : HostGroupRows). set.contains x.hosts c.args.host.now ≡ true) (map.get c.args.mapping.now.host_groups c.args.name.now) c.in-Some.group.now c.has_host.result c.in-Some.ensures
    (test_is c.has_host.result (set.contains c.in-Some.group.now.hosts c.args.host.now) c.has_host.ensures)
