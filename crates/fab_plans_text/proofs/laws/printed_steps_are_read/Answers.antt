use Rattle.std.proofs.lemmas.List.Elements.{recursion_from_All}
use Rattle.fab_plans_base.specs.Plans.{IsStep}
use Rattle.fab_plans_text.proofs.Printed.{printed_again}
use Rattle.fab_plans_text.proofs.laws.printed_steps_are_read.Goals as goal

pub returns : goal.returns
returns c steps h within = printed_again steps (recursion_from_All IsStep steps h) within
