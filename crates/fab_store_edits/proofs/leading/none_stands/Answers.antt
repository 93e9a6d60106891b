use Rattle.std.proofs.Common.{refl, sym, ◌∙◌, arith}
use mathlib.Core.Bool.{true≢false}
use Rattle.fab_store_rows.specs.Standing.{Stands}
use Rattle.fab_store_edits.proofs.ManyRows.{item_in, all_next, all_last}
use Rattle.fab_store_edits.proofs.leading.none_stands.Goals as goal

pub loop-row-init : goal.loop-row-init
loop-row-init g c r h = absurd (omega (arith, h.1))

pub returns-then-has_row : goal.returns-then-has_row
returns-then-has_row g c = (
  λ e. absurd (true≢false (sym e)),
  λ none. absurd (none c.row-item.result (item_in c.args.rows.now c.loop-row.row-index c.row-item.result c.loop-row-test.true c.row-item.is) (c.has_row.ensures.0 c.if-has_row.true)),
)

pub loop-row-preserved : goal.loop-row-preserved
loop-row-preserved g c = all_next (λ r. ¬ Stands c.args.config.now r) c.args.rows.now c.loop-row.row-index c.row-item.result c.loop-row-test.true c.row-item.is c.loop-row.invariant (λ s. true≢false (sym (c.has_row.ensures.1 s) ∙ c.if-has_row.false))

pub returns : goal.returns
returns g c = (λ e. all_last (λ r. ¬ Stands c.args.config.now r) c.args.rows.now c.loop-row.row-index c.loop-row-test.false c.loop-row.invariant, λ none. refl)
