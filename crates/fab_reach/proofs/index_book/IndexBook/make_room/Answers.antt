use Rattle.fab_reach_index.proofs.Patched.{same_both}
use Rattle.fab_reach.proofs.index_book.IndexBook.make_room.Goals as goal

pub returns-clause-kept : goal.returns-clause-kept
returns-clause-kept g c = same_both c.args.self.now.index c.clear.new.self c.make_room.new.self c.clear.ensures c.make_room.ensures.kept
