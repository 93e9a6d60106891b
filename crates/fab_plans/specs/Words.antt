-- The words for what there would be too many of after a step.
use Rattle.std.specs.Prelude.{ℕ, List, codes}
use Rattle.fab_plans.specs.declared.fault.StepLimit.{StepLimit}
use Rattle.fab_plans.specs.declared.fault.StepLimit.TheVariants as step

-- the word for what there would be too many of
abbrev pub step_limit_word : StepLimit → List ℕ
step_limit_word step.Aliases = codes "aliases"
step_limit_word step.Zones = codes "zones"
step_limit_word step.Sets = codes "sets"
step_limit_word step.Active = codes "active"
step_limit_word step.HostGroups = codes "host-groups"
step_limit_word step.Groups = codes "groups"
step_limit_word step.Parts = codes "parts"
