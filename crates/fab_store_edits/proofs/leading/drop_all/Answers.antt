use Rattle.fab_store_edits.proofs.ManyRows.{drop_none, drop_next, drop_last, drop_holds}
use Rattle.fab_store_edits.proofs.leading.drop_all.Goals as goal

pub loop-row-init : goal.loop-row-init
loop-row-init g c = (drop_none c.args.go.now c.args.config.now, λ t. t)

pub returns-then-not-drop_standing-clause-held : goal.returns-then-not-drop_standing-clause-held
returns-then-not-drop_standing-clause-held g c e = drop_holds c.args.go.now c.loop-row.row-index c.row-item.result c.args.config.now c.loop-row.config c.loop-row-test.true c.row-item.is c.loop-row.invariant.0 (c.drop_standing.ensures.held c.if-not-drop_standing.true)

pub returns-then-not-drop_standing-clause-tidy : goal.returns-then-not-drop_standing-clause-tidy
returns-then-not-drop_standing-clause-tidy g c t = c.drop_standing.ensures.tidy (c.loop-row.invariant.1 t)

pub loop-row-preserved : goal.loop-row-preserved
loop-row-preserved g c = (
  drop_next c.args.go.now c.loop-row.row-index c.row-item.result c.args.config.now c.loop-row.config c.drop_standing.new.config c.loop-row-test.true c.row-item.is c.loop-row.invariant.0 (c.drop_standing.ensures.dropped c.if-not-drop_standing.false),
  λ t. c.drop_standing.ensures.tidy (c.loop-row.invariant.1 t),
)

pub returns-clause-dropped : goal.returns-clause-dropped
returns-clause-dropped g c e = drop_last c.args.go.now c.loop-row.row-index c.args.config.now c.loop-row.config c.loop-row-test.false c.loop-row.invariant.0
