use Rattle.std.proofs.Common.{refl, ap, length, arith, inl, inr}
use Rattle.fab_plans_base.specs.Plans.{plan_text}
use Rattle.fab_plans_text.proofs.PlanReadings.{ended, spells_none, plan_fault, long_printed}
use Rattle.fab_plans_text.proofs.plan.read_plan.Goals as goal

pub returns-then-text-gt-MOST_BYTES-clause-fault : goal.returns-then-text-gt-MOST_BYTES-clause-fault
returns-then-text-gt-MOST_BYTES-clause-fault g c = inr (inl (record { long = omega arith; which = refl }))

pub returns-then-text-gt-MOST_BYTES-clause-only : goal.returns-then-text-gt-MOST_BYTES-clause-only
returns-then-text-gt-MOST_BYTES-clause-only g c steps h = absurd (omega (arith, h.short))

pub returns-then-is_empty-clause-fault : goal.returns-then-is_empty-clause-fault
returns-then-is_empty-clause-fault g c = inr (inr (inl (record { empty = ended c.args.text.now c.is_empty.result c.is_empty.ensures c.if-is_empty.true; which = refl })))

pub returns-then-is_empty-clause-only : goal.returns-then-is_empty-clause-only
returns-then-is_empty-clause-only g c steps h = absurd (spells_none c.args.text.now steps (ended c.args.text.now c.is_empty.result c.is_empty.ensures c.if-is_empty.true) h)

pub returns-in-Err-clause-fault : goal.returns-in-Err-clause-fault
returns-in-Err-clause-fault g c = plan_fault c.args.text.now c.in-Err.fault c.in-Err.ensures.fault

pub returns-in-Err-clause-only : goal.returns-in-Err-clause-only
returns-in-Err-clause-only g c steps h = c.in-Err.ensures.only steps h

pub returns-then-not-is_short-clause-fault : goal.returns-then-not-is_short-clause-fault
returns-then-not-is_short-clause-fault g c = inr (inr (inr (inr (inr (record {
  short = omega arith;
  steps = c.in-Ok.steps.items;
  spelled = c.in-Ok.ensures.ok.lines;
  few = c.in-Ok.ensures.ok.few;
  long = long_printed c.in-Ok.steps.items c.deref.result.now c.is_short.result c.deref.ensures.value c.is_short.ensures c.if-not-is_short.true;
  which = refl;
})))))

pub returns-then-not-is_short-clause-only : goal.returns-then-not-is_short-clause-only
returns-then-not-is_short-clause-only g c steps h =
    let long = long_printed c.in-Ok.steps.items c.deref.result.now c.is_short.result c.deref.ensures.value c.is_short.ensures c.if-not-is_short.true in
    let same = ap (λ x. length (plan_text x)) (c.in-Ok.ensures.only steps h) in
    absurd (omega (arith, h.printed_short))

pub returns-clause-only : goal.returns-clause-only
returns-clause-only g c steps h = c.in-Ok.ensures.only steps h
