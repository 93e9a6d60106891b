use Rattle.std.proofs.Common.{inr}
use Rattle.fab_plans_text.proofs.kept.PlanText.read.Goals as goal

pub keep-requires : goal.keep-requires
keep-requires g c = (c.in-Some._steps.items, rw c.in_ok-text.ensures.ok (inr (rw c.in-Some.is at c.in_ok-_steps.ensures)))

pub returns : goal.returns
returns g c =
    let text = rw c.in-Some.is at c.in_ok-_steps.ensures in
    rw (c.keep.ensures c.in-Some._steps.items (rw c.in_ok-text.ensures.ok (inr text))) text
