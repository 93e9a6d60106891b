use Rattle.fab_reach_base.specs.Views.{seen}
use Rattle.fab_reach_moves.proofs.moved.told_moved.Goals as goal

pub returns : goal.returns
returns g c v s d = record {
  ports = c.in_ok-ports.ensures v s d;
  groups = c.in_ok-groups.ensures (seen c.args.before.now) v c.requires.1 d;
  flags = c.told_flags-flags.ensures (seen c.args.before.now) v d;
}
