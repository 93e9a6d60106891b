use Rattle.fab_reach_base.specs.Views.{seen}
use Rattle.fab_reach_pairs.specs.Inner.Finding.{ByInitiator, ByTarget, ByFlag, ByGroup}
use Rattle.fab_reach_moves.specs.Moves.{flagged_at}
use Rattle.fab_reach.proofs.FoundPairs.{found_all}
use Rattle.fab_reach.proofs.finding.found.Goals as goal

pub returns : goal.returns
returns g c v serving diff touched =
    let w = seen c.args.before.now in
    let ports = c.args.moved.now.ports in
    let groups = c.args.moved.now.groups in
    let flags = flagged_at c.args.moved.now.flags in
    found_all (λ e. ByInitiator w v ports groups flags e.0 e.1) (λ e. ByTarget w v ports groups flags e.0 e.1) (λ e. ByFlag w v ports groups flags e.0 e.1) (λ e. ByGroup w v ports groups flags e.0 e.1)
    c.new-pairs.result c.add_by_initiators.new.pairs c.add_by_targets.new.pairs c.add_by_flags.new.pairs c.add_by_groups.new.pairs c.new-pairs.ensures.empty
    (c.in_ok-add_by_initiators.ensures v diff touched) (c.in_ok-add_by_targets.ensures v) (c.in_ok-add_by_flags.ensures v) (c.in_ok-add_by_groups.ensures v diff)
