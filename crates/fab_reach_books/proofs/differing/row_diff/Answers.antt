use Rattle.std.proofs.Common.{sym, subst}
use Rattle.fab_lemmas.specs.Lists.{IsListOf}
use Rattle.fab_reach_base.specs.Views.{seen}
use Rattle.fab_store_rows.specs.Differences.{StandsOnlyIn}
use Rattle.fab_store_rows.specs.RowOrder.{row_order}
use Rattle.fab_reach_books.proofs.differing.row_diff.Goals as goal

pub only_in-requires : goal.only_in-requires
only_in-requires g c = subst (IsListOf row_order (StandsOnlyIn (seen c.args.before.now).config (seen c.args.after.now).config)) (sym c.as_slice.ensures.value) c.in_ok-change.ensures.takes

pub only_in-requires-2 : goal.only_in-requires-2
only_in-requires-2 g c = subst (IsListOf row_order (StandsOnlyIn (seen c.args.after.now).config (seen c.args.before.now).config)) (sym c.as_slice-2.ensures.value) c.in_ok-change.ensures.adds

pub returns : goal.returns
returns g c = record {
  left = c.in_ok-gone.ensures.sound;
  new = c.in_ok-come.ensures.sound;
  before = c.in_ok-gone.ensures.there;
  after = c.in_ok-come.ensures.there;
}
