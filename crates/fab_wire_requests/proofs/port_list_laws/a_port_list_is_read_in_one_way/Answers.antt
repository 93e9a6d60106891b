use Rattle.fab_wire_requests.proofs.RecordLemmas.{one_listing}
use Rattle.fab_wire_requests.proofs.FaultLemmas.{no-fault, one_fault}
use Rattle.fab_wire_requests.proofs.port_list_laws.a_port_list_is_read_in_one_way.Goals as goal

pub returns-clause-rows : goal.returns-clause-rows
returns-clause-rows c = one_listing

pub returns-clause-line : goal.returns-clause-line
returns-clause-line c = one_fault

pub returns-clause-not_both : goal.returns-clause-not_both
returns-clause-not_both c = no-fault
