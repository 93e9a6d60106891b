use Rattle.fab_wire_requests.proofs.PortListLemmas.{field-there}
use Rattle.fab_wire_requests.proofs.port_list.field_in.Goals as goal

pub returns-in-None : goal.returns-in-None
returns-in-None c = absurd (field-there _ _ c.requires c.in-None.ensures.value)
