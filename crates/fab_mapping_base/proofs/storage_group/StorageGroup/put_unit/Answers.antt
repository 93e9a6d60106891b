use Rattle.std.specs.Cmp.{nat_cmp_total}
use Rattle.std.specs.FinSet as set
use Rattle.fab_inventory.proofs.fab_lemmas.SeenMaps.{seen_insert}
use Rattle.fab_mapping_base.proofs.GroupParts.{unit_put}
use Rattle.fab_mapping_base.proofs.storage_group.StorageGroup.put_unit.Goals as goal

pub returns-clause-ok : goal.returns-clause-ok
returns-clause-ok g c = unit_put _ _ _ c.args.number c.args.volume c.self.view_is (seen_insert nat_cmp_total set.nat_cmp-IsAntisymmetric c.self.inside.units c.insert.new.self c.args.number c.args.volume c.in_ok-insert.ensures.updates.0)
