use Rattle.std.proofs.Common.{refl, sym, ◌∙◌, arith}
use mathlib.Core.Bool.{true≢false}
use Rattle.fab_store_edits.proofs.ManyRows.{item_in, all_next, all_last}
use Rattle.fab_store_drafts.specs.There.{MayGo}
use Rattle.fab_store_drafts.proofs.goers.all_may_go.Goals as goal

pub loop-row-init : goal.loop-row-init
loop-row-init g c r h = absurd (omega (arith, h.1))

pub returns-then-not-may_go : goal.returns-then-not-may_go
returns-then-not-may_go g c = (
  λ e. absurd (true≢false (sym e)),
  λ all. absurd (true≢false (sym (c.may_go.ensures.1 (all c.row-item.result (item_in c.args.rows.now c.loop-row.row-index c.row-item.result c.loop-row-test.true c.row-item.is))) ∙ c.if-not-may_go.true)),
)

pub loop-row-preserved : goal.loop-row-preserved
loop-row-preserved g c = all_next (MayGo c.args.config.now) c.args.rows.now c.loop-row.row-index c.row-item.result c.loop-row-test.true c.row-item.is c.loop-row.invariant (c.may_go.ensures.0 c.if-not-may_go.false)

pub returns : goal.returns
returns g c = (λ e. all_last (MayGo c.args.config.now) c.args.rows.now c.loop-row.row-index c.loop-row-test.false c.loop-row.invariant, λ all. refl)
