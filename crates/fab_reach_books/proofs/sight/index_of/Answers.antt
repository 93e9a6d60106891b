use Rattle.std.proofs.Common.{subst}
use Rattle.fab_mapping.specs.Mappings.{MappingRows}
use Rattle.fab_reach_base.specs.Gathering.{IsIndexOf}
use Rattle.fab_reach_books.proofs.sight.index_of.Goals as goal

pub returns : goal.returns
returns g c = subst (λ (m : MappingRows). IsIndexOf m c.in_ok-served.served) c.mapping.ensures c.in_ok-served.ensures
