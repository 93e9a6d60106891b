use Rattle.std.proofs.lemmas.List.Elements.{All-from_recursion}
use Rattle.fab_plans_base.specs.Plans.{IsStep}
use Rattle.fab_plans_text.proofs.Printed.{spelled_steps}
use Rattle.fab_plans_text.proofs.laws.plans_have_steps.Goals as goal

pub returns : goal.returns
returns c text steps h = All-from_recursion IsStep steps (spelled_steps _ steps h.lines)
