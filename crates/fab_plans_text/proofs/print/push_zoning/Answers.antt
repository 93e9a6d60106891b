use Rattle.std.proofs.Common.{arith}
use Rattle.std.proofs.lemmas.Grind.{common_steps}
use Rattle.fab_plans_text.proofs.Printing.{printed_members}
use Rattle.fab_plans_text.proofs.print.push_zoning.Goals as goal

pub returns-in_ok-write-in-AliasPut : goal.returns-in_ok-write-in-AliasPut
returns-in_ok-write-in-AliasPut g c = grind (arith, common_steps, printed_members c.in-AliasPut.members.items)
