use Rattle.fab_plans_text.proofs.Printed.{spelled_steps, printed_again}
use Rattle.fab_plans_text.proofs.laws.printed_plan_is_read.Goals as goal

pub returns : goal.returns
returns c text steps h = printed_again steps (spelled_steps _ steps h.lines) (record { some = h.some; few = h.few; short = h.printed_short })
