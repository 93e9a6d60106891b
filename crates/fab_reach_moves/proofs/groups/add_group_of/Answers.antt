use Rattle.std.proofs.Common.{sym, IsTrue}
use Rattle.std.specs.BTreeSet.{contains}
use Rattle.fab_names.specs.Orders.{name_cmp}
use Rattle.fab_reach_books.proofs.SetLoops.{adds_name}
use Rattle.fab_reach_moves.proofs.Kept.{said_added, none_said}
use Rattle.fab_reach_moves.specs.Inner.Naming.{group_said}
use Rattle.fab_reach_moves.proofs.groups.add_group_of.Goals as goal

pub returns-in_ok-insert : goal.returns-in_ok-insert
returns-in_ok-insert g c = said_added (group_said c.args.row.now) c.in-Some.name (λ n. IsTrue (contains name_cmp c.args.names.now n)) (λ n. IsTrue (contains name_cmp c.insert.new.self n)) (sym c.in-Some.ensures) (adds_name c.args.names.now c.insert.new.self c.in-Some.name c.in_ok-insert.ensures.updates.0)

pub returns-in_default : goal.returns-in_default
returns-in_default g c = none_said (group_said c.args.row.now) (λ n. IsTrue (contains name_cmp c.args.names.now n)) (sym c.in_default.ensures)
