use Rattle.std.proofs.Common.{◌∙◌, refl, sym}
use borrow.Author.Count.{below_more}
use Rattle.fab_policy_text.proofs.Repeats.{repeated, not_repeated, all_distinct}
use Rattle.fab_policy_text.proofs.distinct.distinct_tokens.Goals as goal

pub returns-then-some_has_token-clause-fault : goal.returns-then-some_has_token-clause-fault
returns-then-some_has_token-clause-fault c =
    repeated (λ r. r.token) (λ r. r.name) c.args.callers.now c.loop-i.i c.index-callers-i.result c.index-callers-i.result.token c.name.result c.loop-i-test.true c.index-callers-i.is refl c.name.ensures (sym c.some_has_token.ensures ∙ c.if-some_has_token.true)

pub loop-i-preserved : goal.loop-i-preserved
loop-i-preserved c =
    below_more _ _ c.loop-i.invariant
    (not_repeated (λ r. r.token) c.args.callers.now c.loop-i.i c.index-callers-i.result c.index-callers-i.result.token c.loop-i-test.true c.index-callers-i.is refl (sym c.some_has_token.ensures ∙ c.if-some_has_token.false))

pub returns-clause-ok : goal.returns-clause-ok
returns-clause-ok c = all_distinct (λ r. r.token) c.args.callers.now c.loop-i.i c.loop-i-test.false c.loop-i.invariant
