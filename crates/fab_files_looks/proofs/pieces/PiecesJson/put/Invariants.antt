use Rattle.std.proofs.Common.{map, drop}
use Rattle.serde_json.specs.View.{items_of}
use Rattle.fab_wire_streams.specs.JsonText.{json_text}
use Rattle.fab_wire_streams.specs.Values.{list_data}
use Rattle.fab_wire_streams.specs.Pieces.{items_json}
use Rattle.fab_wire_streams.proofs.Turns.{Gone}
use Rattle.fab_files_looks.proofs.pieces.PiecesJson.put.Given as goal

-- what is left is the text of the parts that are left
abbrev pub invariant-loop-part : goal.invariant-loop-part
invariant-loop-part g l = Gone g.S.Sink.took l.fn.sink l.sink (json_text (list_data g.T.Piece.piece_data l.fn.self.0.now)) (items_json l.later (items_of (map g.T.Piece.piece_data (drop l.part-index l.fn.self.0.now))))
