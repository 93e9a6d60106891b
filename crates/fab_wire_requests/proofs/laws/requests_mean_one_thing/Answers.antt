use Rattle.fab_wire_base.specs.Table.{form_of}
use Rattle.fab_wire_requests.proofs.OneMeaning.{one-by-form}
use Rattle.fab_wire_requests.proofs.laws.requests_mean_one_thing.Goals as goal

pub returns : goal.returns
returns c k target body m n h l = one-by-form c.one_volume.ensures (form_of k) k target body m n h l
