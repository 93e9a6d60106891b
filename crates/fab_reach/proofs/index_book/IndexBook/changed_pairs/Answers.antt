use Rattle.fab_reach_base.specs.Views.{seen}
use Rattle.fab_reach.proofs.index_book.IndexBook.changed_pairs.Goals as goal

pub returns : goal.returns
returns g c v s d = c.in_ok-pairs.ensures v s (c.in_ok-told.ensures (seen c.args.before.now) v d) (c.in_ok-moved.ensures v s d)
