use Rattle.fab_wire_streams.proofs.Texts.{on_ok, string-short}
use Rattle.fab_wire_streams.proofs.names.NameJson.put.Goals as goal

pub returns-clause-bound : goal.returns-clause-bound
returns-clause-bound g c = on_ok c.put_string.result _ (string-short c.args.self.now 64 (rw c.as_bytes.ensures.text at c.as_bytes.ensures.name.short))
