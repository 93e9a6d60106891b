use Rattle.fab_wire_streams.proofs.Texts.{on_ok-then, member-short}
use Rattle.fab_wire_streams.proofs.Turns.{in_turn, second_cut}
use Rattle.fab_wire_streams.proofs.Texts.{member-parts}
use Rattle.fab_wire_streams.proofs.structures.FieldFields.put_fields.Goals as goal

pub returns-in_default-clause-text : goal.returns-in_default-clause-text
returns-in_default-clause-text g c = let s = g.met.S.Sink.laws in rw member-parts (s.early _ _ _ _ c.in_default.ensures)

pub returns-in_default-put-clause-text : goal.returns-in_default-put-clause-text
returns-in_default-put-clause-text g c = let s = g.met.S.Sink.laws in rw member-parts (second_cut s _ _ _ _ _ _ c.in-Ok.ensures c.in_default-put.ensures.text)

pub returns-clause-text : goal.returns-clause-text
returns-clause-text g c =
    let s = g.met.S.Sink.laws in
    rw member-parts (in_turn s c.put_fields.result _ _ _ _ _ c.in-Ok.ensures (in_turn s c.put_fields.result _ _ _ _ _ c.in-Ok-put.ensures.text c.put_fields.ensures.text))

pub returns-clause-bound : goal.returns-clause-bound
returns-clause-bound g c = on_ok-then c.put_fields.result _ _ (member-short _ _ _ _ _ _ c.in-Ok-put.ensures.bound) c.put_fields.ensures.bound
