use Rattle.fab_wire_streams.proofs.Turns.{in_turn}
use Rattle.fab_wire_streams.proofs.Texts.{item-parts}
use Rattle.fab_files_tries.proofs.plans.put_next.Goals as goal

pub returns-in_default : goal.returns-in_default
returns-in_default g c = let s = g.met.S.Sink.laws in rw item-parts (s.early _ _ _ _ c.in_default.ensures)

pub returns : goal.returns
returns g c = let s = g.met.S.Sink.laws in rw item-parts (in_turn s c.put_quoted.result _ _ _ _ _ c.in-Ok.ensures c.put_quoted.ensures)
