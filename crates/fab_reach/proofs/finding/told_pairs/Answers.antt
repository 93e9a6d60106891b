use Rattle.fab_reach_base.specs.Views.{seen}
use Rattle.fab_reach_moves.specs.Moves.{flagged_at}
use Rattle.fab_reach.proofs.FoundPairs.{list_changed}
use Rattle.fab_reach.proofs.finding.told_pairs.Goals as goal

pub returns : goal.returns
returns g c v serving told moved =
    let m = c.args.moved.now in
    list_changed (seen c.args.before.now) v m.ports m.groups (flagged_at m.flags) c.requires.0 serving moved.ports moved.groups moved.flags
    c.in_ok-pairs.pairs c.in_ok-items.items.items c.len-count.ensures.ordered c.in_ok-items.ensures (c.in_ok-pairs.ensures v serving told moved.groups)
