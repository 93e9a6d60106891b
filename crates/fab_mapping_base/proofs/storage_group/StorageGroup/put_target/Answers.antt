use Rattle.std.specs.Cmp.{nat_cmp_total}
use Rattle.std.specs.FinSet as set
use Rattle.fab_inventory.proofs.fab_lemmas.SeenSets.{set_insert}
use Rattle.fab_mapping_base.proofs.GroupParts.{target_put}
use Rattle.fab_mapping_base.proofs.storage_group.StorageGroup.put_target.Goals as goal

pub returns-clause-ok : goal.returns-clause-ok
returns-clause-ok g c = target_put _ _ _ c.args.port c.self.view_is (set_insert nat_cmp_total set.nat_cmp-IsAntisymmetric c.self.inside.targets c.insert.new.self c.args.port c.in_ok-insert.ensures.updates.0)
