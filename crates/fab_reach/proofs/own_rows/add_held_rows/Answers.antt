use Rattle.std.proofs.Common.{sym}
use Rattle.fab_reach_base.specs.Orders.{Has}
use Rattle.fab_reach.proofs.OwnRows.{holder_owns, nobody_owns}
use Rattle.fab_reach.proofs.own_rows.add_held_rows.Goals as goal

pub returns-in_ok-add_own : goal.returns-in_ok-add_own
returns-in_ok-add_own g c = holder_owns c.args.index.now.held c.args.index.now.rows c.args.host.now c.in-Some.ports.now (Has c.args.own.now) (Has c.add_own.new.own) (sym c.in-Some.ensures.value) c.in_ok-add_own.ensures

pub returns-in_default : goal.returns-in_default
returns-in_default g c = nobody_owns c.args.index.now.held c.args.index.now.rows c.args.host.now (Has c.args.own.now) (sym c.in_default.ensures.value)
