use Rattle.fab_desk_commands.specs.Nexts.{next_world}
use Rattle.fab_desk_rows.proofs.changes.next_changes.Goals as goal

pub returns : goal.returns
returns g c = c.together.ensures c.args.world.now (next_world c.args.world.now c.args.next.now) c.in_ok-counts.ensures c.in_ok-parts.ensures c.in_ok-tables.ensures
