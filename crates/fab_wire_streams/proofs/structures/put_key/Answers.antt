use Rattle.fab_wire_streams.proofs.Turns.{in_turn, second_cut}
use Rattle.fab_wire_streams.proofs.Texts.{key-parts}
use Rattle.fab_wire_streams.proofs.structures.put_key.Goals as goal

pub returns-in_default : goal.returns-in_default
returns-in_default g c = let s = g.met.S.Sink.laws in rw key-parts (s.early _ _ _ _ c.in_default.ensures)

pub returns-in_default-put_string : goal.returns-in_default-put_string
returns-in_default-put_string g c =
    let s = g.met.S.Sink.laws in
    let told = rw c.as_bytes.ensures.value at c.in_default-put_string.ensures in
    rw key-parts (second_cut s _ _ _ _ _ _ c.in-Ok.ensures told)

pub returns : goal.returns
returns g c =
    let s = g.met.S.Sink.laws in
    let told = rw c.as_bytes.ensures.value at c.in-Ok-put_string.ensures in
    rw key-parts (in_turn s c.take.result _ _ _ _ _ c.in-Ok.ensures (in_turn s c.take.result _ _ _ _ _ told c.take.ensures))
