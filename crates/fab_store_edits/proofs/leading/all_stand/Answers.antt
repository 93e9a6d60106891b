use Rattle.std.proofs.Common.{refl, sym, ◌∙◌, arith}
use mathlib.Core.Bool.{true≢false}
use Rattle.fab_store_rows.specs.Standing.{Stands}
use Rattle.fab_store_edits.proofs.ManyRows.{item_in, all_next, all_last}
use Rattle.fab_store_edits.proofs.leading.all_stand.Goals as goal

pub loop-row-init : goal.loop-row-init
loop-row-init g c r h = absurd (omega (arith, h.1))

pub returns-then-not-has_row : goal.returns-then-not-has_row
returns-then-not-has_row g c = (
  λ e. absurd (true≢false (sym e)),
  λ all. absurd (true≢false (sym (c.has_row.ensures.1 (all c.row-item.result (item_in c.args.rows.now c.loop-row.row-index c.row-item.result c.loop-row-test.true c.row-item.is))) ∙ c.if-not-has_row.true)),
)

pub loop-row-preserved : goal.loop-row-preserved
loop-row-preserved g c = all_next (Stands c.args.config.now) c.args.rows.now c.loop-row.row-index c.row-item.result c.loop-row-test.true c.row-item.is c.loop-row.invariant (c.has_row.ensures.0 c.if-not-has_row.false)

pub returns : goal.returns
returns g c = (λ e. all_last (Stands c.args.config.now) c.args.rows.now c.loop-row.row-index c.loop-row-test.false c.loop-row.invariant, λ all. refl)
