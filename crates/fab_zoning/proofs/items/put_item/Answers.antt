use Rattle.fab_zoning.proofs.SeenItems.{puts_seen, some_down, some_up, on_ok}
use Rattle.fab_zoning.proofs.items.put_item.Goals as goal

pub returns-clause-puts : goal.returns-clause-puts
returns-clause-puts g c = on_ok c.put_in_tree.result (puts_seen g.met.X.Ord.total c.args.sets.now c.put_in_tree.new.sets (c.args.name, c.args.item)) c.put_in_tree.ensures.puts

pub returns-clause-some : goal.returns-clause-some
returns-clause-some g c = on_ok c.put_in_tree.result (λ keeps h. some_up g.met.X.Ord.total c.put_in_tree.new.sets (keeps (some_down g.met.X.Ord.total c.args.sets.now h))) c.put_in_tree.ensures.some
