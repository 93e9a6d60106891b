use Rattle.std.proofs.Common.{ℕ, ◌≡◌, List, Bor, refl, sym, ◌∙◌, subst, arith}
use mathlib.Core.Bool.{true≢false}
use Rattle.std.proofs.lemmas.Bool.{not-true, not-false}
use Rattle.std.specs.Cmp.Lexicographic.{slice_cmp}
use Rattle.std.specs.Ordering.{nat_cmp}
use Rattle.fab_store.proofs.Names.{AreNamed, named_next, named_last, named_twice, equal_text, text_equal}
use Rattle.fab_store.proofs.opening.are_once.Goals as goal

pub loop-line-preserved : goal.loop-line-preserved
loop-line-preserved c =
    let name_of = λ (k : Bor (List ℕ)). k.now in
    let cmp = λ (a b : Bor (List ℕ)). slice_cmp nat_cmp a.now b.now in
    let text = c.as_str.ensures.value in
    let view = c.line.view_is in
    let named : c.as_str.result.now ≡ c.line-item.result.name = cc in
    let new = not-true _ (sym c.in_ok-insert.ensures.added ∙ c.if-not-branch.false) in
    subst (AreNamed name_of _) (sym c.in_ok-insert.ensures.keys)
    (named_next cmp name_of equal_text c.args.lines.now c.loop-line.line-index c.line-item.result c.loop-line.names.keys c.as_str.result (omega arith) c.line-item.is named new c.loop-line.invariant)

pub returns-then-not-branch : goal.returns-then-not-branch
returns-then-not-branch c =
    let name_of = λ (k : Bor (List ℕ)). k.now in
    let cmp = λ (a b : Bor (List ℕ)). slice_cmp nat_cmp a.now b.now in
    let text = c.as_str.ensures.value in
    let view = c.line.view_is in
    let named : c.as_str.result.now ≡ c.line-item.result.name = cc in
    let some = not-false _ (sym c.in_ok-insert.ensures.added ∙ c.if-not-branch.true) in
    let twice = named_twice cmp name_of text_equal c.args.lines.now c.loop-line.line-index c.line-item.result c.loop-line.names.keys c.as_str.result (omega arith) c.line-item.is named some c.loop-line.invariant in
    (λ never. absurd (true≢false (sym never)), λ once. absurd (twice once))

pub returns : goal.returns
returns c =
    let name_of = λ (k : Bor (List ℕ)). k.now in
    let cmp = λ (a b : Bor (List ℕ)). slice_cmp nat_cmp a.now b.now in
    (λ is. named_last cmp name_of c.args.lines.now c.loop-line.line-index c.loop-line.names.keys c.loop-line-test.false c.loop-line.invariant, λ once. refl)
