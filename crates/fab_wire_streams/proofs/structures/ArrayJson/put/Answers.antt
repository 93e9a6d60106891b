use Rattle.std.proofs.Common.{ℕ, List, [], ◌∷◌, subst}
use Rattle.fab_wire_streams.proofs.Turns.{Gone, gone-first, gone-more, gone-cut, gone-last}
use Rattle.fab_wire_streams.proofs.Texts.{array-parts, items-cut, items-done, on_ok, bounded-none, bounded-more, bounded-all}
use Rattle.fab_wire_streams.specs.JsonText.{json_text}
use Rattle.fab_wire_streams.specs.Values.{list_data}
use Rattle.fab_wire_streams.proofs.structures.ArrayJson.put.Goals as goal

pub returns-in_default-clause-text : goal.returns-in_default-clause-text
returns-in_default-clause-text g c = let s = g.met.S.Sink.laws in rw array-parts (s.early _ _ _ _ c.in_default.ensures)

pub loop-item-init : goal.loop-item-init
loop-item-init g c =
    let s = g.met.S.Sink.laws in
    record {
      gone = rw array-parts (gone-first s _ _ _ _ c.in-Ok.ensures);
      bound = bounded-none _ _ _;
    }

pub returns-in_default-put_item-clause-text : goal.returns-in_default-put_item-clause-text
returns-in_default-put_item-clause-text g c =
    let s = g.met.S.Sink.laws in
    let xs = c.args.self.now.0.now in
    let cut = items-cut g.T.Json.value c.loop-item.later xs c.loop-item.item-index c.item-item.result c.loop-item-test.true in
    let here : Gone g.S.Sink.took c.args.sink.now c.loop-item.sink (json_text (list_data g.T.Json.value xs)) _ = subst (λ (t : List ℕ). Gone g.S.Sink.took c.args.sink.now c.loop-item.sink (json_text (list_data g.T.Json.value xs)) t) cut c.loop-item.invariant.gone in
    gone-cut s _ _ _ _ _ _ here (rw c.item-item.is at c.in_default-put_item.ensures.text)

pub loop-item-preserved : goal.loop-item-preserved
loop-item-preserved g c =
    let s = g.met.S.Sink.laws in
    let xs = c.args.self.now.0.now in
    let cut = items-cut g.T.Json.value c.loop-item.later xs c.loop-item.item-index c.item-item.result c.loop-item-test.true in
    let here : Gone g.S.Sink.took c.args.sink.now c.loop-item.sink (json_text (list_data g.T.Json.value xs)) _ = subst (λ (t : List ℕ). Gone g.S.Sink.took c.args.sink.now c.loop-item.sink (json_text (list_data g.T.Json.value xs)) t) cut c.loop-item.invariant.gone in
    record {
      gone = gone-more s _ _ _ _ _ _ here (rw c.item-item.is at c.in-Ok-put_item.ensures.text);
      bound = bounded-more _ _ _ _ _ c.item-item.result c.loop-item-test.true (rw c.item-item.is at c.in-Ok-put_item.ensures.bound) c.loop-item.invariant.bound;
    }

pub returns-clause-text : goal.returns-clause-text
returns-clause-text g c =
    let s = g.met.S.Sink.laws in
    let xs = c.args.self.now.0.now in
    let done = items-done g.T.Json.value c.loop-item.later xs c.loop-item.item-index c.loop-item-test.false in
    let here : Gone g.S.Sink.took c.args.sink.now c.loop-item.sink (json_text (list_data g.T.Json.value xs)) (93 ∷ []) = subst (λ (t : List ℕ). Gone g.S.Sink.took c.args.sink.now c.loop-item.sink (json_text (list_data g.T.Json.value xs)) t) done c.loop-item.invariant.gone in
    gone-last s c.take-2.result _ _ _ _ _ here c.take-2.ensures

pub returns-clause-bound : goal.returns-clause-bound
returns-clause-bound g c = on_ok c.take-2.result _ (bounded-all _ _ _ _ _ c.loop-item-test.false c.loop-item.invariant.bound)
