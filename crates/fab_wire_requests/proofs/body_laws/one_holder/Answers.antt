use Rattle.fab_wire_requests.proofs.ReadLemmas.{one-body}
use Rattle.fab_wire_requests.proofs.body_laws.one_holder.Goals as goal

pub returns : goal.returns
returns c = one-body
