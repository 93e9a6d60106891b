use Rattle.std.proofs.Common.{refl, sym, ◌∙◌, arith}
use mathlib.Core.Bool.{true≢false}
use Rattle.fab_store_edits.proofs.ManyRows.{item_in, all_next, all_last}
use Rattle.fab_store_drafts.specs.There.{MayCome}
use Rattle.fab_store_drafts.proofs.comers.all_may_come.Goals as goal

pub loop-row-init : goal.loop-row-init
loop-row-init g c r h = absurd (omega (arith, h.1))

pub returns-then-not-may_come : goal.returns-then-not-may_come
returns-then-not-may_come g c = (
  λ e. absurd (true≢false (sym e)),
  λ all. absurd (true≢false (sym (c.may_come.ensures.1 (all c.row-item.result (item_in c.args.rows.now c.loop-row.row-index c.row-item.result c.loop-row-test.true c.row-item.is))) ∙ c.if-not-may_come.true)),
)

pub loop-row-preserved : goal.loop-row-preserved
loop-row-preserved g c = all_next (MayCome c.args.config.now) c.args.rows.now c.loop-row.row-index c.row-item.result c.loop-row-test.true c.row-item.is c.loop-row.invariant (c.may_come.ensures.0 c.if-not-may_come.false)

pub returns : goal.returns
returns g c = (λ e. all_last (MayCome c.args.config.now) c.args.rows.now c.loop-row.row-index c.loop-row-test.false c.loop-row.invariant, λ all. refl)
