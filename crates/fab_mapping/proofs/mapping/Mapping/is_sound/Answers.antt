use Rattle.std.proofs.Common.{IsTrue, subst}
use Rattle.fab_mapping.specs.Mappings.{MappingRows}
use Rattle.fab_mapping.specs.Soundness.{IsSound}
use Rattle.fab_mapping.proofs.mapping.Mapping.is_sound.Goals as goal

pub returns : goal.returns
returns g c = subst (λ (v : MappingRows). (IsTrue c.are_sound.result → IsSound v) × (IsSound v → IsTrue c.are_sound.result)) c.self.view_is c.are_sound.ensures
