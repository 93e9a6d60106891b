use Rattle.std.proofs.Common.{sym, subst}
use Rattle.fab_reach_base.proofs.Same.{same_some}
use Rattle.fab_world.specs.Plans.{IsActive}
use Rattle.fab_world.proofs.kept.is_active_at.Goals as goal

pub returns : goal.returns
returns g c = (
  λ t. (c.in-Some.plan.now, sym c.in-Some.ensures.value, c.is_active.ensures.0 t),
  λ h. c.is_active.ensures.1 (subst IsActive (same_some h.1 (sym c.in-Some.ensures.value)) h.2),
)
