use Rattle.std.proofs.Common.{ℕ, List, [], ◌∷◌, subst}
use Rattle.fab_wire_streams.specs.JsonText.{json_text}
use Rattle.fab_wire_streams.specs.Values.{list_data}
use Rattle.fab_wire_streams.proofs.Turns.{Gone, gone-first, gone-more, gone-cut, gone-last}
use Rattle.fab_wire_streams.proofs.Texts.{array-parts, items-cut, items-done}
use Rattle.fab_files_looks.proofs.pieces.PiecesJson.put.Goals as goal

pub returns-in_default-clause-text : goal.returns-in_default-clause-text
returns-in_default-clause-text g c = let s = g.met.S.Sink.laws in rw array-parts (s.early _ _ _ _ c.in_default.ensures)

pub loop-part-init : goal.loop-part-init
loop-part-init g c = let s = g.met.S.Sink.laws in rw array-parts (gone-first s _ _ _ _ c.in-Ok.ensures)

pub returns-in_default-put_next-clause-text : goal.returns-in_default-put_next-clause-text
returns-in_default-put_next-clause-text g c =
    let s = g.met.S.Sink.laws in
    let xs = c.args.self.now.0.now in
    let cut = items-cut g.T.Piece.piece_data c.loop-part.later xs c.loop-part.part-index c.part-item.result c.loop-part-test.true in
    let here : Gone g.S.Sink.took c.args.sink.now c.loop-part.sink (json_text (list_data g.T.Piece.piece_data xs)) _ = subst (λ (t : List ℕ). Gone g.S.Sink.took c.args.sink.now c.loop-part.sink (json_text (list_data g.T.Piece.piece_data xs)) t) cut c.loop-part.invariant in
    gone-cut s _ _ _ _ _ _ here (rw c.part-item.is at c.in_default-put_next.ensures)

pub loop-part-preserved : goal.loop-part-preserved
loop-part-preserved g c =
    let s = g.met.S.Sink.laws in
    let xs = c.args.self.now.0.now in
    let cut = items-cut g.T.Piece.piece_data c.loop-part.later xs c.loop-part.part-index c.part-item.result c.loop-part-test.true in
    let here : Gone g.S.Sink.took c.args.sink.now c.loop-part.sink (json_text (list_data g.T.Piece.piece_data xs)) _ = subst (λ (t : List ℕ). Gone g.S.Sink.took c.args.sink.now c.loop-part.sink (json_text (list_data g.T.Piece.piece_data xs)) t) cut c.loop-part.invariant in
    gone-more s _ _ _ _ _ _ here (rw c.part-item.is at c.in-Ok-put_next.ensures)

pub returns-clause-text : goal.returns-clause-text
returns-clause-text g c =
    let s = g.met.S.Sink.laws in
    let xs = c.args.self.now.0.now in
    let done = items-done g.T.Piece.piece_data c.loop-part.later xs c.loop-part.part-index c.loop-part-test.false in
    let here : Gone g.S.Sink.took c.args.sink.now c.loop-part.sink (json_text (list_data g.T.Piece.piece_data xs)) (93 ∷ []) = subst (λ (t : List ℕ). Gone g.S.Sink.took c.args.sink.now c.loop-part.sink (json_text (list_data g.T.Piece.piece_data xs)) t) done c.loop-part.invariant in
    gone-last s c.take-2.result _ _ _ _ _ here c.take-2.ensures
