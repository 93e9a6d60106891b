-- The steps of plans, as contracts see them.
use Rattle.std.specs.Prelude.{ℕ, List}
use Rattle.fab_names.specs.declared.fabric.Fabric.{Fabric}
use Rattle.fab_names.specs.declared.member.Member.{Member}
use Rattle.fab_zoning.specs.declared.flag.DefaultFlag.{DefaultFlag}

-- a step, with its values in their order
pub data PlanStep : Type 0 where
  alias_put : Fabric → List ℕ → List Member → PlanStep
  alias_drop : Fabric → List ℕ → PlanStep
  zone_put : Fabric → List ℕ → List Member → PlanStep
  zone_drop : Fabric → List ℕ → PlanStep
  set_put : Fabric → List ℕ → List (List ℕ) → PlanStep
  set_drop : Fabric → List ℕ → PlanStep
  activate : Fabric → List ℕ → PlanStep
  deactivate : Fabric → PlanStep
  default_zone : Fabric → DefaultFlag → PlanStep
  host_group_put : List ℕ → List ℕ → List (List ℕ) → PlanStep
  host_group_drop : List ℕ → PlanStep
  group_new : List ℕ → List ℕ → List ℕ → PlanStep
  group_drop : List ℕ → PlanStep
  group_host : List ℕ → List ℕ → PlanStep
  group_unhost : List ℕ → List ℕ → PlanStep
  group_target : List ℕ → ℕ → PlanStep
  group_untarget : List ℕ → ℕ → PlanStep
  group_map : List ℕ → ℕ → List ℕ → PlanStep
  group_unmap : List ℕ → ℕ → PlanStep
  group_expose : List ℕ → PlanStep
  group_hide : List ℕ → PlanStep
