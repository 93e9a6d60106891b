use Rattle.fab_wire_requests.proofs.PortListLemmas.{field-part, no-column}
use Rattle.fab_wire_requests.proofs.port_list.address_of.Goals as goal

pub returns-then-addressed : goal.returns-then-addressed
returns-then-addressed c = field-part _ _ _ c.if-addressed.true c.address_or_none.ensures

pub returns-else-addressed : goal.returns-else-addressed
returns-else-addressed c = no-column _ _ c.if-addressed.false
