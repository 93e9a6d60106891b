use Rattle.std.proofs.Common.{subst, List, ℕ, ◌∷◌, []}
use Rattle.std.specs.List.{flat_map}
use Rattle.fab_wire_streams.specs.JsonText.{quoted_json}
use Rattle.fab_wire_streams.proofs.Turns.{Gone, gone-first, gone-more, gone-cut, gone-last}
use Rattle.fab_wire_streams.proofs.Texts.{quoted-parts, joined-cut, joined-done}
use Rattle.fab_wire_streams.proofs.escapes.put_joined.Goals as goal

pub returns-in_default : goal.returns-in_default
returns-in_default g c = let s = g.met.S.Sink.laws in rw quoted-parts (s.early _ _ _ _ c.in_default.ensures)

pub loop-text-init : goal.loop-text-init
loop-text-init g c = let s = g.met.S.Sink.laws in rw quoted-parts (gone-first s _ _ _ _ c.in-Ok.ensures)

pub returns-in_default-put_escaped : goal.returns-in_default-put_escaped
returns-in_default-put_escaped g c =
    let s = g.met.S.Sink.laws in
    let whole = quoted_json (flat_map (λ text. text.now) c.args.texts.now) in
    let cut = joined-cut (λ text. text.now) c.args.texts.now c.loop-text.text-index _ c.loop-text-test.true in
    let here : Gone g.S.Sink.took c.args.sink.now c.loop-text.sink whole _ = subst (λ (t : List ℕ). Gone g.S.Sink.took c.args.sink.now c.loop-text.sink whole t) cut c.loop-text.invariant in
    gone-cut s _ _ _ _ _ _ here c.in_default-put_escaped.ensures

pub loop-text-preserved : goal.loop-text-preserved
loop-text-preserved g c =
    let s = g.met.S.Sink.laws in
    let whole = quoted_json (flat_map (λ text. text.now) c.args.texts.now) in
    let cut = joined-cut (λ text. text.now) c.args.texts.now c.loop-text.text-index _ c.loop-text-test.true in
    let here : Gone g.S.Sink.took c.args.sink.now c.loop-text.sink whole _ = subst (λ (t : List ℕ). Gone g.S.Sink.took c.args.sink.now c.loop-text.sink whole t) cut c.loop-text.invariant in
    gone-more s _ _ _ _ _ _ here c.in-Ok-put_escaped.ensures

pub returns : goal.returns
returns g c =
    let s = g.met.S.Sink.laws in
    let whole = quoted_json (flat_map (λ text. text.now) c.args.texts.now) in
    let done = joined-done (λ text. text.now) c.args.texts.now c.loop-text.text-index c.loop-text-test.false in
    let here : Gone g.S.Sink.took c.args.sink.now c.loop-text.sink whole (34 ∷ []) = subst (λ (t : List ℕ). Gone g.S.Sink.took c.args.sink.now c.loop-text.sink whole t) done c.loop-text.invariant in
    gone-last s c.take-2.result _ _ _ _ _ here c.take-2.ensures
