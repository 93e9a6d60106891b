use Rattle.std.proofs.Common.{◌≡◌, Contains, Some}
use Rattle.fab_reach_base.proofs.Adding.{before_next, before_last}
use Rattle.fab_reach_books.specs.Inner.Telling.{row_in}
use Rattle.fab_reach_books.specs.declared.row.Row.{Row}
use Rattle.fab_store_rows.specs.declared.config_row.ConfigRow.{ConfigRow}
use Rattle.fab_reach_books.proofs.differing.add_kept.Goals as goal

pub loop-row-preserved : goal.loop-row-preserved
loop-row-preserved g c =
    before_next (λ (k : ConfigRow) (r : Row). row_in k ≡ Some r) c.args.these.now c.loop-row.row-index c.row-item.result (Contains c.args.rows.now.items) (Contains c.loop-row.rows.items) (Contains c.push_kept.new.rows.items) c.loop-row-test.true c.row-item.is c.loop-row.invariant
    c.in_ok-push_kept.ensures

pub returns : goal.returns
returns g c = before_last (λ (k : ConfigRow) (r : Row). row_in k ≡ Some r) c.args.these.now c.loop-row.row-index (Contains c.args.rows.now.items) (Contains c.loop-row.rows.items) c.loop-row-test.false c.loop-row.invariant
