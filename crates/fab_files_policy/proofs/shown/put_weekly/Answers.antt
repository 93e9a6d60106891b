use Rattle.fab_wire_streams.proofs.Turns.{in_turn}
use Rattle.fab_files_policy.proofs.shown.put_weekly.Goals as goal

pub returns : goal.returns
returns g c =
    let s = g.met.S.Sink.laws in
    in_turn s c.put_said-2.result c.args.sink.now c.put_said.new.sink c.put_said-2.new.sink _ _ c.in-Ok.ensures (in_turn s c.put_said-2.result c.put_said.new.sink c.put_spans.new.sink c.put_said-2.new.sink _ _ c.in-Ok-put_spans.ensures c.put_said-2.ensures)
