use Rattle.std.proofs.Common.{subst}
use Rattle.fab_mapping.specs.Mappings.{MappingRows}
use Rattle.fab_reach_base.specs.Gathering.{IsIndexOf}
use Rattle.fab_reach_index.proofs.indexing.groups_of.Goals as goal

pub returns : goal.returns
returns g c q k = (subst (λ (m : MappingRows). IsIndexOf m c.in_ok-groups.groups) c.mapping.ensures c.in_ok-groups.ensures) (q, k)
