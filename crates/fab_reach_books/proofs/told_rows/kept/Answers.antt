use Rattle.fab_reach_books.specs.Inner.Telling.{AreIn}
use Rattle.fab_reach_books.proofs.GivenRows.{listed_from_none}
use Rattle.fab_reach_books.proofs.told_rows.kept.Goals as goal

pub returns : goal.returns
returns g c = listed_from_none (AreIn c.args.rows.now) c.new-kept.result.items c.add_kept.new.rows.items c.new-kept.ensures.items c.in_ok-add_kept.ensures
