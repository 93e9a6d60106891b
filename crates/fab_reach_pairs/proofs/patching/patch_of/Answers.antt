use Rattle.fab_reach_base.specs.Views.{seen}
use Rattle.fab_reach_pairs.proofs.patching.patch_of.Goals as goal

pub returns : goal.returns
returns g c v s t moved touched groups d =
    let w = seen c.args.before.now in record {
      zones = c.in_ok-zoned.ensures.zones v s t moved;
      ports = c.in_ok-zoned.ensures.ports v s t moved;
      groups = groups;
      held = c.in_ok-held.ensures w v c.requires.held t;
      targeted = c.in_ok-targeted.ensures v t touched;
      serving = c.in_ok-serving.ensures w v c.requires t;
      rows = c.in_ok-rows.ensures w v c.requires d;
    }
