use Rattle.std.proofs.Common.{sym, IsTrue}
use Rattle.std.specs.BTreeSet.{contains}
use Rattle.fab_names.specs.Orders.{name_cmp}
use Rattle.fab_reach_moves.proofs.Kept.{serving_added}
use Rattle.fab_reach_moves.proofs.groups.add_serving.Goals as goal

pub returns-in_ok-add_names : goal.returns-in_ok-add_names
returns-in_ok-add_names g c = serving_added c.args.serving.now c.args.row.now c.in-Some.hosts c.in-Some-get.these.now (λ n. IsTrue (contains name_cmp c.args.names.now n)) (λ n. IsTrue (contains name_cmp c.add_names.new.names n)) (sym c.in-Some.ensures) (sym c.in-Some-get.ensures.value) c.in_ok-add_names.ensures
