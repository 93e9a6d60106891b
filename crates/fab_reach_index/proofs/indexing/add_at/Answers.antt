use Rattle.fab_zoning.specs.Edits.{IsIn}
use Rattle.fab_zoning.proofs.SeenItems.{on_ok}
use Rattle.fab_reach_base.proofs.Services.{adds_one}
use Rattle.fab_reach_index.proofs.indexing.add_at.Goals as goal

pub returns : goal.returns
returns g c = on_ok c.put_in_tree.result (adds_one (c.args.key, c.args.item) (IsIn g.Q.Ord.cmp g.X.Ord.cmp c.args.sets.now) (IsIn g.Q.Ord.cmp g.X.Ord.cmp c.put_in_tree.new.sets)) c.put_in_tree.ensures.puts
