use Rattle.fab_wire_requests.proofs.ReadLemmas.{ReadSoFar}
use Rattle.fab_wire_requests.proofs.holder.read_ports.Given as goal

abbrev pub invariant-loop-value : goal.invariant-loop-value
invariant-loop-value g l = ReadSoFar l.values l.value-index l.ports.items
