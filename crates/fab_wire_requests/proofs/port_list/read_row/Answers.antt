use Rattle.std.proofs.Common.{sym}
use Rattle.fab_wire_requests.proofs.PortListLemmas.{no-row}
use Rattle.fab_wire_requests.proofs.port_list.read_row.Goals as goal

pub returns-in-Some : goal.returns-in-Some
returns-in-Some c = rw (sym c.in-Some.ensures) c.row_of.ensures

pub returns-in-None : goal.returns-in-None
returns-in-None c = no-row _ c.in-None.ensures c.args.addressed
