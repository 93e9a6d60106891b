use Rattle.fab_wire_requests.proofs.ReadLemmas.{not-port, string-is}
use Rattle.fab_wire_requests.proofs.values.port_in.Goals as goal

pub returns-in-Err : goal.returns-in-Err
returns-in-Err c = not-port _ c.in-Some.text.now c.in-Some.ensures c.in-Err.ensures.err

pub returns-in-Ok : goal.returns-in-Ok
returns-in-Ok c = record { text = c.in-Some.text.now; is = string-is _ c.in-Some.text.now c.in-Some.ensures; spells = c.in-Ok.ensures.ok }
