use Rattle.fab_wire_streams.proofs.Texts.{on_ok-then, object-short}
use Rattle.fab_wire_streams.proofs.Turns.{in_turn}
use Rattle.fab_wire_streams.proofs.Texts.{object-parts}
use Rattle.fab_wire_streams.proofs.structures.ObjectJson.put.Goals as goal

pub returns-in_default-clause-text : goal.returns-in_default-clause-text
returns-in_default-clause-text g c = let s = g.met.S.Sink.laws in rw object-parts (s.early _ _ _ _ c.in_default.ensures)

pub returns-clause-text : goal.returns-clause-text
returns-clause-text g c = let s = g.met.S.Sink.laws in rw object-parts (in_turn s c.put_fields.result _ _ _ _ _ c.in-Ok.ensures c.put_fields.ensures.text)

pub returns-clause-bound : goal.returns-clause-bound
returns-clause-bound g c = on_ok-then c.put_fields.result _ _ (object-short _ _) c.put_fields.ensures.bound
