use Rattle.std.proofs.lemmas.List.Elements.{recursion_from_All}
use Rattle.fab_plans_base.specs.Plans.{IsStep}
use Rattle.fab_plans_text.proofs.Printed.{one_printed}
use Rattle.fab_plans_text.proofs.laws.equal_printed_forms_equal_steps.Goals as goal

pub returns : goal.returns
returns c steps others h k e = one_printed steps others (recursion_from_All IsStep steps h) (recursion_from_All IsStep others k) e
