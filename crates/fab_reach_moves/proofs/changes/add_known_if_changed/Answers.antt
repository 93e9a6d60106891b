use Rattle.std.proofs.Common.{sym}
use Rattle.fab_reach_base.specs.Views.{seen}
use Rattle.fab_reach_books.specs.Inner.Sets.{HasPortIn}
use Rattle.fab_reach_moves.specs.Inner.Changing.{world_at}
use Rattle.fab_reach_moves.proofs.Changed.{known_changed}
use Rattle.fab_reach_moves.proofs.changes.add_known_if_changed.Goals as goal

pub returns : goal.returns
returns g c v gone come d a b = known_changed (seen c.args.before.now) (world_at c.args.is_before (seen c.args.before.now) v) c.args.key.now c.args.name.now c.in-Some.port (HasPortIn c.args.ports.now) (HasPortIn c.add_if_changed.new.ports) (sym c.in-Some.ensures.port) (c.in_ok-add_if_changed.ensures v gone come d a b)
