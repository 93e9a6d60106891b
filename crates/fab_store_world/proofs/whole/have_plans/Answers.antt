use Rattle.std.proofs.Common.{refl, sym, ◌∙◌, subst, arith}
use Rattle.std.specs.Prelude.{IsSome}
use mathlib.Core.Bool.{true≢false}
use Rattle.std.specs.BTreeMap.{get}
use Rattle.fab_reach_base.proofs.fab_lemmas.Scans.{scan_more, scan_end}
use Rattle.fab_reach_base.specs.fab_names.Orders.{name_cmp}
use Rattle.fab_store_world.proofs.whole.have_plans.Goals as goal

pub loop-row-preserved : goal.loop-row-preserved
loop-row-preserved g c =
    scan_more (λ r. IsSome (get name_cmp c.args.plans.now r.plan)) c.args.rows.now c.loop-row.row-index c.row-item.result c.loop-row-test.true c.row-item.is c.loop-row.invariant (sym c.contains_key.ensures ∙ c.if-not-contains_key.false)

pub returns-then-not-contains_key : goal.returns-then-not-contains_key
returns-then-not-contains_key g c = (
  λ t. absurd (true≢false (sym t)),
  λ h.
      let there = subst (λ r. IsSome (get name_cmp c.args.plans.now r.plan)) (sym c.row-item.is) (h c.loop-row.row-index c.row-item.result c.loop-row-test.true) in
      absurd (true≢false (sym (c.contains_key.ensures ∙ there) ∙ c.if-not-contains_key.true)),
)

pub returns : goal.returns
returns g c = (λ t. scan_end (λ r. IsSome (get name_cmp c.args.plans.now r.plan)) c.args.rows.now c.loop-row.row-index (omega (arith, c.loop-row-test.false)) c.loop-row.invariant, λ h. refl)
