use Rattle.fab_wire_requests.proofs.PortListLemmas.{no-field, no-part}
use Rattle.fab_wire_requests.proofs.port_list.address_in.Goals as goal

pub returns-then-addressed : goal.returns-then-addressed
returns-then-addressed c = no-field _ _ c.if-addressed.true c.in-None.is

pub returns-else-addressed : goal.returns-else-addressed
returns-else-addressed c = no-part _ _ c.if-addressed.false c.in-None.is
