use Rattle.std.proofs.Common.{drop}
use Rattle.std.specs.List.{flat_map}
use Rattle.fab_wire_streams.proofs.Turns.{Gone}
use Rattle.fab_wire_streams.proofs.sink.put_all.Given as goal

abbrev pub invariant-loop-text : goal.invariant-loop-text
invariant-loop-text g l = Gone g.S.Sink.took l.fn.sink l.sink (flat_map (λ text. text.now) l.fn.texts) (flat_map (λ text. text.now) (drop l.text-index l.texts))
