use Rattle.std.specs.Cmp.{nat_cmp_total}
use Rattle.std.specs.FinSet as set
use Rattle.fab_inventory.proofs.fab_lemmas.SeenMaps.{seen_remove}
use Rattle.fab_mapping_base.proofs.GroupParts.{unit_gone}
use Rattle.fab_mapping_base.proofs.storage_group.StorageGroup.unmap.Goals as goal

pub returns : goal.returns
returns g c = unit_gone _ _ _ c.args.unit c.self.view_is (seen_remove nat_cmp_total set.nat_cmp-IsAntisymmetric c.self.inside.units c.remove.new.self c.args.unit c.remove.ensures.updates.0)
