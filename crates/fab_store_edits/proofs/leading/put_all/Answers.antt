use Rattle.fab_store_rows.specs.Gathering.{Has}
use Rattle.fab_store_edits.proofs.ManyRows.{far_none, far_next, far_last, far_stops}
use Rattle.fab_store_edits.proofs.leading.put_all.Goals as goal

pub loop-row-init : goal.loop-row-init
loop-row-init g c = (far_none (Has c.args.going.now) c.args.heads c.args.come.now c.args.config.now, λ t. t)

pub returns-in_err-put_of_kind-clause-tidy : goal.returns-in_err-put_of_kind-clause-tidy
returns-in_err-put_of_kind-clause-tidy g c t = c.put_of_kind.ensures.tidy (c.loop-row.invariant.1 t)

pub returns-then-not-branch-clause-stopped : goal.returns-then-not-branch-clause-stopped
returns-then-not-branch-clause-stopped g c e = far_stops (Has c.args.going.now) c.args.heads c.args.come.now c.loop-row.row-index c.row-item.result c.args.config.now c.loop-row.config c.loop-row-test.true c.row-item.is c.loop-row.invariant.0 (c.in_ok-put_of_kind.ensures.refused c.if-not-branch.true)

pub returns-then-not-branch-clause-tidy : goal.returns-then-not-branch-clause-tidy
returns-then-not-branch-clause-tidy g c t = c.put_of_kind.ensures.tidy (c.loop-row.invariant.1 t)

pub loop-row-preserved : goal.loop-row-preserved
loop-row-preserved g c = (
  far_next (Has c.args.going.now) c.args.heads c.args.come.now c.loop-row.row-index c.row-item.result c.args.config.now c.loop-row.config c.put_of_kind.new.config c.loop-row-test.true c.row-item.is c.requires.stay c.loop-row.invariant.0 (c.in_ok-put_of_kind.ensures.put c.if-not-branch.false),
  λ t. c.put_of_kind.ensures.tidy (c.loop-row.invariant.1 t),
)

pub returns-clause-put : goal.returns-clause-put
returns-clause-put g c e = far_last (Has c.args.going.now) c.args.heads c.args.come.now c.loop-row.row-index c.args.config.now c.loop-row.config c.loop-row-test.false c.loop-row.invariant.0
