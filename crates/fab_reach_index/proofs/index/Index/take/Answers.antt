use Rattle.std.specs.Ordering.{nat_cmp}
use Rattle.fab_names.specs.Orders.{name_cmp}
use Rattle.fab_reach_base.specs.Orders.{path_cmp}
use Rattle.fab_reach_index.specs.Indexes.{zone_cmp, PortInZone, ZoneHasPort, IsHostServed, IsHeldBy, IsTargetOf, IsHostGroupOf, IsRowOf}
use Rattle.fab_reach_books.specs.Pairs.{pair_cmp}
use Rattle.fab_reach_index.proofs.Patched.{tree_after}
use Rattle.fab_reach_index.proofs.index.Index.take.Goals as goal

pub returns : goal.returns
returns g c v room to = record {
  zones = tree_after nat_cmp zone_cmp (PortInZone v) c.args.patch.zones c.args.self.now.zones c.put_all.new.map (c.put_all.ensures room.zones) to.zones;
  ports = tree_after zone_cmp nat_cmp (ZoneHasPort v) c.args.patch.ports c.args.self.now.ports c.put_all-2.new.map (c.put_all-2.ensures room.ports) to.ports;
  groups = tree_after name_cmp name_cmp (IsHostServed v) c.args.patch.groups c.args.self.now.groups c.put_all-3.new.map (c.put_all-3.ensures room.groups) to.groups;
  held = tree_after name_cmp nat_cmp (IsHeldBy v) c.args.patch.held c.args.self.now.held c.put_all-4.new.map (c.put_all-4.ensures room.held) to.held;
  targeted = tree_after nat_cmp name_cmp (IsTargetOf v) c.args.patch.targeted c.args.self.now.targeted c.put_all-5.new.map (c.put_all-5.ensures room.targeted) to.targeted;
  serving = tree_after name_cmp name_cmp (IsHostGroupOf v) c.args.patch.serving c.args.self.now.serving c.put_all-6.new.map (c.put_all-6.ensures room.serving) to.serving;
  rows = tree_after pair_cmp path_cmp (IsRowOf v) c.args.patch.rows c.args.self.now.rows c.put_all-7.new.map (c.put_all-7.ensures room.rows) to.rows;
}
