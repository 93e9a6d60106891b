use Rattle.std.proofs.Common.{◌≡◌, ℕ, List, [], ◌∷◌, ◌++◌, sym, ap, ◌∙◌, subst, arith, take, drop}
use Rattle.std.proofs.lemmas.Grind.{common_steps}
use Rattle.fab_wire_streams.specs.Taking.{IsSink}
use Rattle.fab_wire_streams.proofs.Turns.{Gone, gone-more, gone-cut, gone-all}
use Rattle.fab_wire_streams.specs.Escapes.{escape_json, escapes_json}
use Rattle.fab_wire_streams.proofs.Texts.{escapes-nil, escapes-cut, escapes-cons}
use Rattle.fab_wire_streams.proofs.escapes.put_escaped.Goals as goal

-- a run of plain bytes has gone out, and an escape is next
run-gone : {S : Type 0} {took cut : S → List ℕ → S → Type 0} (s : IsSink took cut) (a b c : S) (whole : List ℕ) (n : ℕ) (rest front behind : List ℕ) (first : ℕ) (left : List ℕ)
    → Gone took a b whole (escapes_json rest) → escapes_json (take n rest) ≡ take n rest → front ≡ take n rest → behind ≡ drop n rest → behind ≡ first ∷ left → took b front c
    → Gone took a c whole (escape_json first ++ escapes_json left)
run-gone {took = took} s a b c whole n rest front behind first left h plain f d e k =
    let cut : escapes_json rest ≡ front ++ (escape_json first ++ escapes_json left) =
    escapes-cut n rest plain ∙ ap (λ t. t ++ escapes_json (drop n rest)) (sym f) ∙ ap (λ t. front ++ t) (ap escapes_json (sym d ∙ e) ∙ escapes-cons first left) in
    gone-more s a b c whole front (escape_json first ++ escapes_json left) (subst (λ (t : List ℕ). Gone took a b whole t) cut h) k

pub returns-in_default : goal.returns-in_default
returns-in_default g c =
    let s = g.met.S.Sink.laws in
    let cut : escapes_json c.loop-rest.rest.now ≡ c.split_at.result.0.now ++ escapes_json c.split_at.result.1.now = rw (c.split_at.ensures.front, c.split_at.ensures.back) (escapes-cut c.plain_len.result c.loop-rest.rest.now c.plain_len.ensures.plain) in
    gone-cut s _ _ _ _ _ (escapes_json c.split_at.result.1.now) (subst (λ (t : List ℕ). Gone g.S.Sink.took c.args.sink.now c.loop-rest.sink (escapes_json c.args.text.now) t) cut c.loop-rest.invariant) c.in_default.ensures

pub returns-in_default-put_escape : goal.returns-in_default-put_escape
returns-in_default-put_escape g c =
    let s = g.met.S.Sink.laws in
    gone-cut s _ _ _ (escapes_json c.args.text.now) (escape_json c.in-Some.first.now) (escapes_json c.in-Some.left.now)
    (run-gone s _ _ _ (escapes_json c.args.text.now) c.plain_len.result c.loop-rest.rest.now c.split_at.result.0.now c.split_at.result.1.now c.in-Some.first.now c.in-Some.left.now c.loop-rest.invariant c.plain_len.ensures.plain c.split_at.ensures.front c.split_at.ensures.back c.in-Some.ensures.cases.0 c.in-Ok.ensures)
    c.in_default-put_escape.ensures

pub loop-rest-preserved : goal.loop-rest-preserved
loop-rest-preserved g c =
    let s = g.met.S.Sink.laws in
    gone-more s _ _ _ (escapes_json c.args.text.now) (escape_json c.in-Some.first.now) (escapes_json c.in-Some.left.now)
    (run-gone s _ _ _ (escapes_json c.args.text.now) c.plain_len.result c.loop-rest.rest.now c.split_at.result.0.now c.split_at.result.1.now c.in-Some.first.now c.in-Some.left.now c.loop-rest.invariant c.plain_len.ensures.plain c.split_at.ensures.front c.split_at.ensures.back c.in-Some.ensures.cases.0 c.in-Ok.ensures)
    c.in-Ok-put_escape.ensures

pub returns : goal.returns
returns g c =
    let s = g.met.S.Sink.laws in
    let none : c.loop-rest.rest.now ≡ [] = grind (arith, common_steps, c.loop-rest-test.ensures) in
    gone-all s _ _ _ (subst (λ (t : List ℕ). Gone g.S.Sink.took c.args.sink.now c.loop-rest.sink (escapes_json c.args.text.now) t) (ap escapes_json none ∙ escapes-nil) c.loop-rest.invariant)
