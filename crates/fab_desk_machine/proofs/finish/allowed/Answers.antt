use Rattle.std.proofs.Common.{sym, ◌∙◌}
use Rattle.fab_desk_machine.proofs.finish.allowed.Goals as goal

pub answer_dry_run-requires-clause-dry_run : goal.answer_dry_run-requires-clause-dry_run
answer_dry_run-requires-clause-dry_run g c = sym c.dry_run_plan.ensures ∙ c.in-Some.is

pub returns-in-Some-clause-proposes : goal.returns-in-Some-clause-proposes
returns-in-Some-clause-proposes g c p judged = c.answer_dry_run.ensures.answers p judged
