use Rattle.std.specs.Cmp.{nat_cmp_total}
use Rattle.std.specs.FinSet as set
use Rattle.fab_inventory.proofs.fab_lemmas.SeenSets.{set_remove}
use Rattle.fab_mapping_base.proofs.GroupParts.{target_gone}
use Rattle.fab_mapping_base.proofs.storage_group.StorageGroup.remove_target.Goals as goal

pub returns : goal.returns
returns g c = target_gone _ _ _ c.args.target.now c.self.view_is (set_remove nat_cmp_total set.nat_cmp-IsAntisymmetric c.self.inside.targets c.remove.new.self c.args.target.now c.remove.ensures.updates.0)
