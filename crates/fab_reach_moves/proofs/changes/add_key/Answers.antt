use Rattle.fab_reach_moves.proofs.Changed.{adds_key, key_said}
use Rattle.fab_reach_moves.specs.Inner.Changing.{Key, HasKey}
use Rattle.fab_reach_moves.proofs.changes.add_key.Goals as goal

pub returns : goal.returns
returns g c =
    let k : Key = ((c.in-Active.active.fabric, c.in-Active.active.zone), c.in-Active.active.member) in
    key_said c.args.row.now k (HasKey c.args.keys.now) (HasKey c.insert.new.self) c.in-Active.is (adds_key c.args.keys.now c.insert.new.self k c.in_ok-insert.ensures.updates.0)
