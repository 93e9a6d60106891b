use Rattle.fab_wire_streams.proofs.Texts.{on_ok, string-is}
use Rattle.fab_wire_streams.proofs.values.TextJson.put.Goals as goal

pub returns-clause-bound : goal.returns-clause-bound
returns-clause-bound g c = on_ok c.put_string.result _ (string-is c.args.self.now.0.now)
