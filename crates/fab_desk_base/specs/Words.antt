-- The words for what there would be too many of.
use Rattle.std.specs.Prelude.{ℕ, List, codes}
use Rattle.fab_desk_base.specs.declared.fault.DeskLimit.{DeskLimit}
use Rattle.fab_desk_base.specs.declared.fault.DeskLimit.TheVariants as limit

-- the word for what there would be too many of
abbrev pub limit_word : DeskLimit → List ℕ
limit_word limit.Ports = codes "ports"
limit_word limit.Holders = codes "holders"
limit_word limit.Volumes = codes "volumes"
limit_word limit.Plans = codes "plans"
limit_word limit.Paths = codes "paths"
limit_word limit.Changes = codes "changes"
