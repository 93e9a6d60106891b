use Rattle.fab_reach_moves.proofs.Changed.{keys_from_nothing}
use Rattle.fab_reach_moves.proofs.changes.keys_of.Goals as goal

pub returns : goal.returns
returns g c = keys_from_nothing c.args.rows.now c.new-keys.result c.add_keys.new.keys c.new-keys.ensures.empty c.in_ok-add_keys.ensures
