use Rattle.std.proofs.Common.{inr}
use Rattle.fab_plans_text.proofs.kept.PlanText.of.Goals as goal

pub keep-requires : goal.keep-requires
keep-requires g c =
    (c.args.steps.now, rw (c.in_ok-text.ensures.ok, c.as_str.ensures.value) (inr (record { spells = c.in_ok-printed.ensures.read c.requires; printed = c.in_ok-printed.ensures.text })))

pub returns : goal.returns
returns g c =
    c.keep.ensures c.args.steps.now (rw (c.in_ok-text.ensures.ok, c.as_str.ensures.value) (inr (record { spells = c.in_ok-printed.ensures.read c.requires; printed = c.in_ok-printed.ensures.text })))
