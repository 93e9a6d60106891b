use Rattle.fab_reach_base.specs.Views.{seen}
use Rattle.fab_reach_index.proofs.index.Index.of.Goals as goal

pub returns : goal.returns
returns g c = record {
  zones = c.in_ok-zones.ensures;
  ports = c.in_ok-ports.ensures (seen c.args.view.now) c.in_ok-zones.ensures;
  groups = c.in_ok-groups_of.ensures;
  held = c.in_ok-held_of.ensures;
  targeted = c.in_ok-targeted_of.ensures;
  serving = c.in_ok-serving_of.ensures;
  rows = c.in_ok-rows_of.ensures (seen c.args.view.now) c.requires.paths;
}
