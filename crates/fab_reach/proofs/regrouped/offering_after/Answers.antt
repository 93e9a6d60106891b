use Rattle.std.proofs.Common.{sym, ◌∙◌}
use mathlib.Core.Bool.{true≢false}
use Rattle.fab_reach.proofs.Regroups.{offered_none, offered_there}
use Rattle.fab_reach.proofs.regrouped.offering_after.Goals as goal

pub returns-then-not-is_exposed_after : goal.returns-then-not-is_exposed_after
returns-then-not-is_exposed_after g c v d = offered_none v c.args.name.now c.new-ports.result c.in_ok-targets.targets (c.in_ok-targets.ensures v d) c.new-ports.ensures.empty (λ x at h.
    true≢false (sym ((c.is_exposed_after.ensures v d).1 (x, at, h)) ∙ c.if-not-is_exposed_after.true))

pub returns : goal.returns
returns g c v d = offered_there v c.args.name.now c.in_ok-ports.ports c.in_ok-targets.targets (c.in_ok-targets.ensures v d) ((c.is_exposed_after.ensures v d).0 c.if-not-is_exposed_after.false) (c.in_ok-ports.ensures v d)
