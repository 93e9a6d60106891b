use Rattle.fab_wire_requests.proofs.ReadLemmas.{not-name}
use Rattle.fab_wire_requests.proofs.values.name_in.Goals as goal

pub returns-in-Err : goal.returns-in-Err
returns-in-Err c = not-name _ c.in-Some.text.now c.in-Some.ensures c.in-Err.ensures.err
