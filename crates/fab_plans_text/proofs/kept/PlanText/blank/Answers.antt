use Rattle.std.proofs.Common.{[]}
use Rattle.fab_plans_text.proofs.KeptPlans.{blank_kept}
use Rattle.fab_plans_text.proofs.kept.PlanText.blank.Goals as goal

pub returns : goal.returns
returns g c = c.keep.ensures [] (blank_kept _ c.new.ensures.bytes)
