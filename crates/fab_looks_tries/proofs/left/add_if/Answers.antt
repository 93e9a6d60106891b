use Rattle.fab_looks_tries.proofs.Leaving.{asked_added}
use Rattle.fab_looks_tries.proofs.left.add_if.Goals as goal

pub returns : goal.returns
returns g c = asked_added c.args.is_asked c.args.name c.args.names.now c.insert.new.self c.if-not-is_asked.false c.in_ok-insert.ensures.updates.0
