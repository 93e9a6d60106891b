use Rattle.std.specs.Option.{option_copied}
use Rattle.fab_reach_index.proofs.Regathering.{set_left}
use Rattle.fab_reach_index.proofs.regather.set_at.Goals as goal

pub returns : goal.returns
returns g c = set_left g.Q.Ord.cmp g.K.Ord.cmp c.args.old.now c.args.gone.now c.args.come.now g.met.K.Ord.total g.met.K.Key.exact c.args.key.now (option_copied c.get-2.result) (option_copied c.get.result) (option_copied c.get-3.result) c.get-2.ensures.value c.get.ensures.value c.get-3.ensures.value
    c.new-items.result c.add_some_left.new.items c.add_some_left-2.new.items c.new-items.ensures.empty c.in_ok-add_some_left.ensures c.in_ok-add_some_left-2.ensures
