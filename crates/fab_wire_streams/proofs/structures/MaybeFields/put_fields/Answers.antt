use Rattle.fab_wire_streams.proofs.Texts.{on_ok-then, member-short}
use Rattle.fab_wire_streams.proofs.Turns.{in_turn, second_cut}
use Rattle.fab_wire_streams.proofs.Texts.{member-parts}
use Rattle.fab_wire_streams.proofs.structures.MaybeFields.put_fields.Goals as goal

pub returns-in_default-put_key-clause-text : goal.returns-in_default-put_key-clause-text
returns-in_default-put_key-clause-text g c = let s = g.met.S.Sink.laws in rw c.in-Some.is (rw member-parts (s.early _ _ _ _ c.in_default-put_key.ensures))

pub returns-in_default-put-clause-text : goal.returns-in_default-put-clause-text
returns-in_default-put-clause-text g c = let s = g.met.S.Sink.laws in rw c.in-Some.is (rw member-parts (second_cut s _ _ _ _ _ _ c.in-Ok.ensures c.in_default-put.ensures.text))

pub returns-clause-text : goal.returns-clause-text
returns-clause-text g c =
    let s = g.met.S.Sink.laws in
    rw c.in-Some.is (rw member-parts (in_turn s c.put_fields-2.result _ _ _ _ _ c.in-Ok.ensures (in_turn s c.put_fields-2.result _ _ _ _ _ c.in-Ok-put.ensures.text c.put_fields-2.ensures.text)))

pub returns-clause-bound : goal.returns-clause-bound
returns-clause-bound g c = rw c.in-Some.is (on_ok-then c.put_fields-2.result _ _ (member-short _ _ _ _ _ _ c.in-Ok-put.ensures.bound) c.put_fields-2.ensures.bound)
