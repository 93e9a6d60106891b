use Rattle.std.proofs.Common.{sym, ap, ◌∙◌}
use mathlib.Core.Bool.{true≢false}
use denote.Enum.Bare.{same_false}
use Rattle.fab_plans_base.specs.Plans.{plan_text}
use Rattle.fab_plans_text.specs.contracts.fault.PlanFaultKind.{the_type}
use Rattle.fab_plans_text.specs.declared.fault.PlanFaultKind.TheVariants as kind
use Rattle.fab_plans_text.proofs.spelled.steps_of.Goals as goal

pub returns-else-branch : goal.returns-else-branch
returns-else-branch g c steps h =
    let same = c.in-Ok.ensures.only steps h.spells in
    let printed = h.printed ∙ sym (ap plan_text (c.deref.ensures.value ∙ same)) in
    true≢false (sym (c.in_ok-is_printed-in-Ok.ensures.1 printed) ∙ c.if-branch.false)

pub returns-else-eq : goal.returns-else-eq
returns-else-eq g c steps h = same_false the_type c.in-Err.fault.kind kind.Memory (sym c.eq.ensures ∙ c.if-eq.false) (c.in-Err.ensures.only steps h.spells)
