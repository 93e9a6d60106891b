use Rattle.std.proofs.Common.{◌∙◌, sym}
use borrow.Author.Count.{below_more}
use Rattle.fab_program_checks.proofs.Named.{named, other_named, nobody}
use Rattle.fab_program_checks.proofs.deeds.place_of.Goals as goal

pub returns-then-is_named-clause-has : goal.returns-then-is_named-clause-has
returns-then-is_named-clause-has c = named c.args.callers.now c.loop-i.i c.index-callers-i.result c.args.name.now c.loop-i-test.true c.index-callers-i.is (sym c.is_named.ensures ∙ c.if-is_named.true)

pub loop-i-preserved : goal.loop-i-preserved
loop-i-preserved c =
    below_more _ _ c.loop-i.invariant
    (other_named c.args.callers.now c.loop-i.i c.index-callers-i.result c.args.name.now c.loop-i-test.true c.index-callers-i.is (sym c.is_named.ensures ∙ c.if-is_named.false))

pub returns-clause-nobody : goal.returns-clause-nobody
returns-clause-nobody c = nobody c.args.callers.now c.loop-i.i c.args.name.now c.loop-i-test.false c.loop-i.invariant
