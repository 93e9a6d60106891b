use Rattle.std.proofs.Common.{drop, ◌++◌, ◌∷◌, []}
use Rattle.std.specs.List.{flat_map}
use Rattle.fab_wire_streams.specs.JsonText.{quoted_json}
use Rattle.fab_wire_streams.specs.Escapes.{escapes_json}
use Rattle.fab_wire_streams.proofs.Turns.{Gone}
use Rattle.fab_wire_streams.proofs.escapes.put_joined.Given as goal

abbrev pub invariant-loop-text : goal.invariant-loop-text
invariant-loop-text g l =
    Gone g.S.Sink.took l.fn.sink l.sink (quoted_json (flat_map (λ text. text.now) l.fn.texts)) (escapes_json (flat_map (λ text. text.now) (drop l.text-index l.texts)) ++ (34 ∷ []))
