use Rattle.std.proofs.Common.{[], take, ◌+◌, sym, subst, arith}
use Rattle.std.specs.List.{AllZip}
use Rattle.fab_desk_base.specs.Showing.{Shows}
use Rattle.fab_looks.proofs.Answered.{zip_next, zip_last, at_place}
use Rattle.fab_looks.proofs.rows.answers_to.Goals as goal

pub loop-query-init : goal.loop-query-init
loop-query-init g c = subst (AllZip (Shows c.args.world.now) []) (sym c.new-rows.ensures.items) tt

pub answer_to-requires-clause-there : goal.answer_to-requires-clause-there
answer_to-requires-clause-there g c = c.requires.there c.query-item.result (at_place c.args.queries.now c.loop-query.query-index c.query-item.result c.loop-query-test.true c.query-item.is)

pub loop-query-preserved : goal.loop-query-preserved
loop-query-preserved g c =
    subst (AllZip (Shows c.args.world.now) (take (c.loop-query.query-index + 1) c.args.queries.now)) (sym c.in_ok-push.ensures.items)
    (zip_next (Shows c.args.world.now) c.args.queries.now c.loop-query.query-index c.query-item.result c.loop-query.rows.items c.in_ok-row.row c.loop-query-test.true c.query-item.is c.loop-query.invariant c.in_ok-row.ensures)

pub returns : goal.returns
returns g c = zip_last (Shows c.args.world.now) c.args.queries.now c.loop-query.query-index c.loop-query.rows.items (omega (arith, c.loop-query-test.false)) c.loop-query.invariant
