use Rattle.fab_wire_streams.proofs.Texts.{on_ok-then, item-short}
use Rattle.fab_wire_streams.proofs.Turns.{in_turn}
use Rattle.fab_wire_streams.proofs.Texts.{item-parts}
use Rattle.fab_wire_streams.proofs.structures.put_item.Goals as goal

pub returns-in_default-clause-text : goal.returns-in_default-clause-text
returns-in_default-clause-text g c = let s = g.met.S.Sink.laws in rw item-parts (s.early _ _ _ _ c.in_default.ensures)

pub returns-clause-text : goal.returns-clause-text
returns-clause-text g c = let s = g.met.S.Sink.laws in rw item-parts (in_turn s c.put.result _ _ _ _ _ c.in-Ok.ensures c.put.ensures.text)

pub returns-clause-bound : goal.returns-clause-bound
returns-clause-bound g c = on_ok-then c.put.result _ _ (item-short _ _ _) c.put.ensures.bound
