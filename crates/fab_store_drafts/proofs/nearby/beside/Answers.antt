use Rattle.fab_store_drafts.proofs.Gathering.{beside_is}
use Rattle.fab_store_drafts.proofs.nearby.beside.Goals as goal

pub returns : goal.returns
returns g c = beside_is c.args.mapping.now c.args.users.now c.args.group.now c.new-near.result c.add_near.new.near c.new-serving.result c.add_serving.new.serving c.new-near.ensures.empty c.new-serving.ensures.empty c.in_ok-add_near.ensures c.in_ok-add_serving.ensures
