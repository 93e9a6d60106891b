use Rattle.std.proofs.Common.{refl, sym, ◌∙◌, arith}
use mathlib.Core.Bool.{true≢false}
use Rattle.fab_store_edits.proofs.RowsInOrder.{order_next, order_here, order_all}
use Rattle.fab_store_edits.proofs.leading.is_in_order.Goals as goal

pub loop-i-init : goal.loop-i-init
loop-i-init c = (omega arith, λ k d h. absurd (omega (arith, h)))

pub returns-then-not-is_before : goal.returns-then-not-is_before
returns-then-not-is_before c = (
  λ e. absurd (true≢false (sym e)),
  λ sorted. absurd (true≢false (sym (c.is_before.ensures.1 (order_here c.args.rows.now c.loop-i.i c.index-rows-i.result c.index-rows-i-in-loop-i.result c.loop-i.invariant.0 (let t = c.loop-i-test.true in omega (arith, t)) c.index-rows-i.is c.index-rows-i-in-loop-i.is sorted)) ∙ c.if-not-is_before.true)),
)

pub loop-i-preserved : goal.loop-i-preserved
loop-i-preserved c = (
  omega arith,
  order_next c.args.rows.now c.loop-i.i c.index-rows-i.result c.index-rows-i-in-loop-i.result c.loop-i.invariant.0 (let t = c.loop-i-test.true in omega (arith, t)) c.index-rows-i.is c.index-rows-i-in-loop-i.is c.loop-i.invariant.1 (c.is_before.ensures.0 c.if-not-is_before.false),
)

pub returns : goal.returns
returns c = (λ e. order_all c.args.rows.now c.loop-i.i (let t = c.loop-i-test.false in omega (arith, t)) c.loop-i.invariant.1, λ sorted. refl)
