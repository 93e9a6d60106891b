use Rattle.std.proofs.Common.{◌∙◌, sym}
use borrow.Author.Count.{below_more}
use Rattle.fab_policy_text.proofs.Repeats.{repeated, not_repeated, all_distinct}
use Rattle.fab_policy_text.proofs.distinct.distinct_names.Goals as goal

pub returns-then-some_has_name-clause-fault : goal.returns-then-some_has_name-clause-fault
returns-then-some_has_name-clause-fault g c =
    let name_of = g.T.Named.name_of in
    repeated name_of name_of c.args.items.now c.loop-i.i c.index-items-i.result c.name-name.result c.name-name.result c.loop-i-test.true c.index-items-i.is c.name-name.ensures c.name-name.ensures (sym c.some_has_name.ensures ∙ c.if-some_has_name.true)

pub loop-i-preserved : goal.loop-i-preserved
loop-i-preserved g c =
    below_more _ _ c.loop-i.invariant
    (not_repeated g.T.Named.name_of c.args.items.now c.loop-i.i c.index-items-i.result c.name-name.result c.loop-i-test.true c.index-items-i.is c.name-name.ensures (sym c.some_has_name.ensures ∙ c.if-some_has_name.false))

pub returns-clause-ok : goal.returns-clause-ok
returns-clause-ok g c = all_distinct g.T.Named.name_of c.args.items.now c.loop-i.i c.loop-i-test.false c.loop-i.invariant
