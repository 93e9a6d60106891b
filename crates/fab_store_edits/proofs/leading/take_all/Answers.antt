use Rattle.fab_store_edits.proofs.ManyRows.{taken_none, taken_next, taken_last}
use Rattle.std.proofs.Common.{false}
use Rattle.fab_store_edits.proofs.leading.take_all.Goals as goal

pub loop-row-init : goal.loop-row-init
loop-row-init g c = (taken_none false c.args.config.now, λ t. t)

pub returns-in_err-take_unless_sole-clause-tidy : goal.returns-in_err-take_unless_sole-clause-tidy
returns-in_err-take_unless_sole-clause-tidy g c t = c.take_unless_sole.ensures.tidy (c.loop-row.invariant.1 t)

pub loop-row-preserved : goal.loop-row-preserved
loop-row-preserved g c = (
  taken_next false c.args.go.now c.loop-row.row-index c.row-item.result c.args.config.now c.loop-row.config c.take_unless_sole.new.config c.loop-row-test.true c.row-item.is c.loop-row.invariant.0 c.in_ok-take_unless_sole.ensures.taken,
  λ t. c.take_unless_sole.ensures.tidy (c.loop-row.invariant.1 t),
)

pub returns-clause-taken : goal.returns-clause-taken
returns-clause-taken g c = taken_last false c.args.go.now c.loop-row.row-index c.args.config.now c.loop-row.config c.loop-row-test.false c.loop-row.invariant.0
