use Rattle.std.proofs.Common.{refl, sym, ◌∙◌, subst, arith}
use mathlib.Core.Bool.{true≢false}
use Rattle.std.specs.BTreeMap.{get}
use Rattle.fab_reach_base.specs.fab_lemmas.Firsts.{HasAt}
use Rattle.fab_reach_base.proofs.fab_lemmas.Scans.{scan_more, scan_end}
use Rattle.fab_reach_base.specs.fab_names.Orders.{name_cmp}
use Rattle.fab_world.specs.Plans.{IsActive}
use Rattle.fab_store_world.proofs.whole.have_active.Goals as goal

pub loop-row-preserved : goal.loop-row-preserved
loop-row-preserved g c =
    scan_more (λ r. HasAt (get name_cmp c.args.plans.now) IsActive r.plan) c.args.rows.now c.loop-row.row-index c.row-item.result c.loop-row-test.true c.row-item.is c.loop-row.invariant (c.is_active_at.ensures.0 c.if-not-is_active_at.false)

pub returns-then-not-is_active_at : goal.returns-then-not-is_active_at
returns-then-not-is_active_at g c = (
  λ t. absurd (true≢false (sym t)),
  λ h.
      let there = subst (λ r. HasAt (get name_cmp c.args.plans.now) IsActive r.plan) (sym c.row-item.is) (h c.loop-row.row-index c.row-item.result c.loop-row-test.true) in
      absurd (true≢false (sym (c.is_active_at.ensures.1 there) ∙ c.if-not-is_active_at.true)),
)

pub returns : goal.returns
returns g c = (λ t. scan_end (λ r. HasAt (get name_cmp c.args.plans.now) IsActive r.plan) c.args.rows.now c.loop-row.row-index (omega (arith, c.loop-row-test.false)) c.loop-row.invariant, λ h. refl)
