use Rattle.fab_reach_index.proofs.Regathering.{left_none, all_left}
use Rattle.fab_reach_index.proofs.regather.regathered.Goals as goal

pub returns : goal.returns
returns g c =
    let one = c.in_ok-put_sets.ensures in
    let two = c.in_ok-put_sets-2.ensures in
    all_left g.Q.Ord.cmp g.K.Ord.cmp c.args.old.now c.args.gone.now c.args.come.now c.put_sets-2.new.sets
    (two.left (one.left (left_none g.Q.Ord.cmp g.K.Ord.cmp c.args.old.now c.args.gone.now c.args.come.now c.new-sets.result c.new-sets.ensures.empty)))
    (λ q h. two.kept q (one.there q h)) two.there
