use Rattle.std.proofs.Common.{refl, sym, ◌∙◌, subst, arith}
use mathlib.Core.Bool.{true≢false}
use Rattle.std.specs.BTreeMap.{get}
use Rattle.fab_reach_base.proofs.fab_lemmas.Scans.{scan_more, scan_end}
use Rattle.fab_reach_base.specs.fab_lemmas.Firsts.{HasAt}
use Rattle.fab_reach_base.specs.fab_names.Orders.{name_cmp}
use Rattle.fab_world.specs.Plans.{IsActive}
use Rattle.fab_world.proofs.kept.are_active.Goals as goal

pub loop-name-preserved : goal.loop-name-preserved
loop-name-preserved g c =
    scan_more (HasAt (get name_cmp c.args.plans.now) IsActive) c.args.order.now c.loop-name.name-index c.name-item.result c.loop-name-test.true c.name-item.is c.loop-name.invariant (c.is_active_at.ensures.0 c.if-not-is_active_at.false)

pub returns-then-not-is_active_at : goal.returns-then-not-is_active_at
returns-then-not-is_active_at g c = (
  λ t. absurd (true≢false (sym t)),
  λ h.
      let there = subst (HasAt (get name_cmp c.args.plans.now) IsActive) (sym c.name-item.is) (h c.loop-name.name-index c.name-item.result c.loop-name-test.true) in
      absurd (true≢false (sym (c.is_active_at.ensures.1 there) ∙ c.if-not-is_active_at.true)),
)

pub returns : goal.returns
returns g c = (λ t. scan_end (HasAt (get name_cmp c.args.plans.now) IsActive) c.args.order.now c.loop-name.name-index (omega (arith, c.loop-name-test.false)) c.loop-name.invariant, λ h. refl)
