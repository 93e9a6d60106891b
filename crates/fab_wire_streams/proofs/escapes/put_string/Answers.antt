use Rattle.fab_wire_streams.proofs.Turns.{in_turn, second_cut}
use Rattle.fab_wire_streams.proofs.Texts.{quoted-parts}
use Rattle.fab_wire_streams.proofs.escapes.put_string.Goals as goal

pub returns-in_default : goal.returns-in_default
returns-in_default g c = let s = g.met.S.Sink.laws in rw quoted-parts (s.early _ _ _ _ c.in_default.ensures)

pub returns-in_default-put_escaped : goal.returns-in_default-put_escaped
returns-in_default-put_escaped g c = let s = g.met.S.Sink.laws in rw quoted-parts (second_cut s _ _ _ _ _ _ c.in-Ok.ensures c.in_default-put_escaped.ensures)

pub returns : goal.returns
returns g c =
    let s = g.met.S.Sink.laws in
    rw quoted-parts (in_turn s c.take-2.result _ _ _ _ _ c.in-Ok.ensures (in_turn s c.take-2.result _ _ _ _ _ c.in-Ok-put_escaped.ensures c.take-2.ensures))
