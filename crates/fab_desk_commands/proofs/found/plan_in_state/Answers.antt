use Rattle.std.proofs.Common.{refl, sym, ◌∙◌}
use mathlib.Core.Bool.{true≢false}
use Rattle.fab_desk_commands.proofs.found.plan_in_state.Goals as goal

pub returns-then-not-is_state-clause-err : goal.returns-then-not-is_state-clause-err
returns-then-not-is_state-clause-err g c = (
  c.state-state.result,
  (refl, (c.plan_at-plan.result.now, c.plan_at-plan.ensures, c.state-state.ensures, λ same. true≢false (sym (c.is_state.ensures.1 same) ∙ c.if-not-is_state.true))),
)
