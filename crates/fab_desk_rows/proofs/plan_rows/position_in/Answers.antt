use Rattle.std.proofs.Common.{inr, refl, sym, ◌∙◌}
use mathlib.Core.Bool.{true≢false}
use Rattle.fab_desk_rows.proofs.OrderEnds.{last_position}
use Rattle.fab_desk_rows.proofs.plan_rows.position_in.Goals as goal

pub returns-then-is_active : goal.returns-then-is_active
returns-then-is_active c = λ order n h. last_position order c.args.in_force n (h.last (c.is_active.ensures.0 c.if-is_active.true))

pub returns-else-is_active : goal.returns-else-is_active
returns-else-is_active c = λ order n h. inr (refl, h.absent (λ is. true≢false (sym (c.is_active.ensures.1 is) ∙ c.if-is_active.false)))
