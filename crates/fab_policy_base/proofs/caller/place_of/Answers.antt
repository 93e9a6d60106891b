use Rattle.std.proofs.Common.{◌∙◌, sym}
use borrow.Author.Count.{below_more}
use Rattle.fab_policy_base.proofs.Found.{has_token, has_other, nobody}
use Rattle.fab_policy_base.proofs.caller.place_of.Goals as goal

pub returns-then-has_token-clause-has : goal.returns-then-has_token-clause-has
returns-then-has_token-clause-has c = has_token c.args.callers.now c.loop-i.i c.index-callers-i.result c.args.token.now c.loop-i-test.true c.index-callers-i.is (sym c.has_token.ensures ∙ c.if-has_token.true)

pub loop-i-preserved : goal.loop-i-preserved
loop-i-preserved c =
    below_more _ _ c.loop-i.invariant
    (has_other c.args.callers.now c.loop-i.i c.index-callers-i.result c.args.token.now c.loop-i-test.true c.index-callers-i.is (sym c.has_token.ensures ∙ c.if-has_token.false))

pub returns-clause-nobody : goal.returns-clause-nobody
returns-clause-nobody c = nobody c.args.callers.now c.loop-i.i c.args.token.now c.loop-i-test.false c.loop-i.invariant
