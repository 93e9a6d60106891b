use Rattle.std.proofs.Common.{sym, ap, ◌∙◌}
use Rattle.std.specs.Cmp.{nat_cmp_total}
use Rattle.std.specs.FinSet as set
use Rattle.fab_mapping_base.specs.Groups.{StorageGroupRows}
use Rattle.fab_inventory.proofs.fab_lemmas.SeenSets.{contains_seen}
use Rattle.fab_mapping_base.proofs.storage_group.StorageGroup.has_target.Goals as goal

pub returns : goal.returns
returns g c = c.contains.ensures ∙ sym (contains_seen nat_cmp_total c.self.inside.targets c.args.target.now) ∙ ap (λ (v : StorageGroupRows). set.contains v.targets c.args.target.now) c.self.view_is
