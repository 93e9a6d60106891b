use Rattle.std.proofs.Common.{◌≡◌, List, Contains, sym, subst}
use Rattle.fab_reach_base.specs.Adding.{Adds}
use Rattle.fab_reach_base.proofs.Adding.{before_next, before_last}
use Rattle.fab_reach_books.specs.declared.row.Row.{Row}
use Rattle.fab_reach_books.specs.declared.row.Row.TheVariants as row
use Rattle.fab_reach_books.proofs.GivenRows.{OfHolder, all_holders}
use Rattle.fab_reach_books.proofs.RowsTold.{row_pushed}
use Rattle.fab_reach_books.proofs.told_rows.add_holders.Goals as goal

pub loop-holder-preserved : goal.loop-holder-preserved
loop-holder-preserved g c =
    let x = c.holder-item.result in
    before_next OfHolder c.args.holders.now c.loop-holder.holder-index x (Contains c.args.rows.now.items) (Contains c.loop-holder.rows.items) (Contains c.push.new.self.items) c.loop-holder-test.true c.holder-item.is c.loop-holder.invariant
    (subst (λ (ys : List Row). Adds (λ r. r ≡ row.Holder x) (Contains c.loop-holder.rows.items) (Contains ys)) (sym c.in_ok-push.ensures.items) (row_pushed c.loop-holder.rows.items (row.Holder x)))

pub returns : goal.returns
returns g c = all_holders c.args.holders.now (Contains c.args.rows.now.items) (Contains c.loop-holder.rows.items) (before_last OfHolder c.args.holders.now c.loop-holder.holder-index (Contains c.args.rows.now.items) (Contains c.loop-holder.rows.items) c.loop-holder-test.false c.loop-holder.invariant)
