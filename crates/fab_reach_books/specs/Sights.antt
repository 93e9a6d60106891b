-- What contracts see of a sight of a view.
use Rattle.std.specs.Prelude.{ℕ, Option, None, Some, refl}
use Rattle.std.specs.Coded.{Coded, code_by, coded×, coded_ℕ}
use Rattle.fab_mapping.specs.Mappings.{MappingRows}
use Rattle.fab_reach_base.specs.Gathering.{Index, IsIndexOf}
use Rattle.fab_reach_base.specs.Records.{Records, records_code}

-- the world that is seen, and how many questions were asked
pub record SightRows : Type 0 where
  pub world : Records
  pub asked : ℕ

abbrev pub sight_code : Coded SightRows
sight_code = code_by (Records × ℕ) (coded× records_code coded_ℕ) (λ s. (s.world, s.asked)) (λ p. record { world = p.0; asked = p.1 }) (λ _. refl)

-- the index, if it was made already, is of the exposed storage groups that serve each host
abbrev pub IsIndexIfMade : MappingRows → Option Index → Type 0
IsIndexIfMade m None = Unit {0}
IsIndexIfMade m (Some t) = IsIndexOf m t
