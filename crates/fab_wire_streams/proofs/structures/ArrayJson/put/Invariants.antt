use Rattle.std.proofs.Common.{map, drop, ◌+◌}
use Rattle.serde_json.specs.View.{items_of}
use Rattle.fab_wire_streams.specs.JsonText.{json_text}
use Rattle.fab_wire_streams.specs.Values.{list_data}
use Rattle.fab_wire_streams.specs.Pieces.{items_json}
use Rattle.fab_wire_streams.proofs.Turns.{Gone}
use Rattle.fab_wire_streams.proofs.Texts.{IsBounded}
use Rattle.fab_wire_streams.proofs.structures.ArrayJson.put.Given as goal

abbrev pub invariant-loop-item : goal.invariant-loop-item
invariant-loop-item g l =
    record {
      gone : Gone g.S.Sink.took l.fn.sink l.sink (json_text (list_data g.T.Json.value l.fn.self.0.now)) (items_json l.later (items_of (map g.T.Json.value (drop l.item-index l.fn.self.0.now))));
      bound : IsBounded g.T.Json.value (λ x. g.T.Json.most x + 1) l.later l.fn.self.0.now l.item-index;
    }
