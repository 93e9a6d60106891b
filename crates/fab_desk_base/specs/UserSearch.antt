-- How the least target that leaves is found: what a private loop says of itself. No public contract
-- names anything of this file.
use Rattle.std.specs.Prelude.{ℕ, List, All}
use Rattle.std.specs.FinMap as map
use Rattle.fab_reach_base.specs.fab_lemmas.Firsts.{IsFirstWithout, HasNowhere}
use Rattle.fab_reach_base.specs.fab_mapping_base.Groups.{HasTarget}
use Rattle.fab_reach_base.specs.fab_mapping.Mappings.{MappingRows}
use Rattle.fab_desk_base.specs.Users.{IsTargetUser}

-- no storage group targets the port
abbrev pub IsUntargeted : MappingRows → ℕ → Type 0
IsUntargeted m q = HasNowhere (map.get m.groups) (HasTarget q)

-- no storage group targets any of the ports
abbrev pub AreUntargeted : MappingRows → List ℕ → Type 0
AreUntargeted m ports = All (IsUntargeted m) ports

-- the first of the ports that one targets, with the first such group by name
abbrev pub IsFirstTargeted : MappingRows → List ℕ → ℕ × List ℕ → Type 0
IsFirstTargeted m ports e = IsFirstWithout (IsUntargeted m) ports e.0 × IsTargetUser m e.0 e.1
