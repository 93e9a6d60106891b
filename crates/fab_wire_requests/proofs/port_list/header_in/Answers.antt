use Rattle.std.proofs.Common.{sym}
use Rattle.fab_wire_requests.proofs.PortListLemmas.{no-header}
use Rattle.fab_wire_requests.proofs.port_list.header_in.Goals as goal

pub returns-in-Some : goal.returns-in-Some
returns-in-Some c = rw (sym c.in-Some.ensures) c.header_among.ensures

pub returns-in-None : goal.returns-in-None
returns-in-None c = no-header _ c.in-None.ensures
