use Rattle.std.proofs.Common.{IsTrue}
use Rattle.std.specs.BTreeSet.{contains}
use Rattle.fab_names.specs.Orders.{name_cmp}
use Rattle.fab_reach_moves.proofs.Kept.{touched_by}
use Rattle.fab_reach_moves.proofs.groups.add_touched_by.Goals as goal

pub returns : goal.returns
returns g c = touched_by c.args.serving.now c.args.row.now (λ n. IsTrue (contains name_cmp c.args.names.now n)) (λ n. IsTrue (contains name_cmp c.add_group_of.new.names n)) (λ n. IsTrue (contains name_cmp c.add_serving.new.names n)) c.in_ok-add_group_of.ensures c.in_ok-add_serving.ensures
