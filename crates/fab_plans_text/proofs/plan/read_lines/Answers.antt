use Rattle.std.proofs.Common.{subst, arith}
use Rattle.fab_plans_text.proofs.PlanReadings.{HasRead, read_none, read_more, read_all, refused, some_step, ended}
use Rattle.fab_plans_text.proofs.Excluded.{only_memory}
use Rattle.fab_plans_base.proofs.Unique.{one_plan}
use Rattle.fab_plans_text.proofs.plan.read_lines.Goals as goal

pub loop-rest-init : goal.loop-rest-init
loop-rest-init g c = rw c.new-steps.ensures.items (read_none c.args.text.now c.utf8.text)

pub loop-rest-preserved : goal.loop-rest-preserved
loop-rest-preserved g c =
    rw c.in_ok-push-in-Ok.ensures.items (read_more c.args.text.now c.loop-rest.rest.now c.first_line.result.0.now c.first_line.result.1.now c.loop-rest.steps.items c.in-Ok.step c.loop-rest.invariant c.first_line.ensures.cut.lines c.in-Ok.ensures.ok.0 (omega (arith, c.len.ensures, c.in-Ok.ensures.ok.1)) c.first_line.ensures.text)

pub returns-in-Err-clause-fault : goal.returns-in-Err-clause-fault
returns-in-Err-clause-fault g c =
    refused c.args.text.now c.loop-rest.rest.now c.first_line.result.0.now c.first_line.result.1.now c.loop-rest.steps.items _ c.in-Err.fault c.requires.short c.loop-rest.invariant c.first_line.ensures.cut.lines (omega (arith, c.len.ensures)) c.in-Err.ensures.fault

pub returns-in-Err-clause-only : goal.returns-in-Err-clause-only
returns-in-Err-clause-only g c steps h =
    only_memory c.args.text.now steps c.in-Err.fault h (refused c.args.text.now c.loop-rest.rest.now c.first_line.result.0.now c.first_line.result.1.now c.loop-rest.steps.items _ c.in-Err.fault c.requires.short c.loop-rest.invariant c.first_line.ensures.cut.lines (omega (arith, c.len.ensures)) c.in-Err.ensures.fault)

pub returns-clause-ok : goal.returns-clause-ok
returns-clause-ok g c =
    let none = ended c.loop-rest.rest.now c.is_empty.result c.is_empty.ensures c.loop-rest-test.false in
    let lines = read_all c.args.text.now c.loop-rest.steps.items (subst (λ rest. HasRead c.args.text.now rest c.loop-rest.steps.items) none c.loop-rest.invariant) in
    record { lines = lines; some = some_step c.args.text.now c.loop-rest.steps.items c.requires.some lines; few = c.loop-rest.invariant.few }

pub returns-clause-only : goal.returns-clause-only
returns-clause-only g c steps h =
    let none = ended c.loop-rest.rest.now c.is_empty.result c.is_empty.ensures c.loop-rest-test.false in
    one_plan _ _ steps (read_all c.args.text.now c.loop-rest.steps.items (subst (λ rest. HasRead c.args.text.now rest c.loop-rest.steps.items) none c.loop-rest.invariant)) h.lines
