use Rattle.fab_wire_streams.proofs.structures.put_comma.Goals as goal

pub returns-else-later : goal.returns-else-later
returns-else-later g c = rw c.if-later.false (g.met.S.Sink.laws.none c.args.sink.now)
