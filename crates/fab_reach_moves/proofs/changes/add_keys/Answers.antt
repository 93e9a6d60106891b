use Rattle.std.proofs.Common.{◌≡◌}
use Rattle.fab_reach_base.proofs.Adding.{before_next, before_last}
use Rattle.fab_reach_moves.specs.Inner.Changing.{Key, HasKey, active_of}
use Rattle.fab_reach_books.specs.declared.row.Row.{Row}
use Rattle.fab_reach_moves.proofs.Changed.{keys_said}
use Rattle.fab_reach_moves.proofs.changes.add_keys.Goals as goal

pub loop-row-preserved : goal.loop-row-preserved
loop-row-preserved g c =
    before_next (λ (r : Row) (k : Key). r ≡ active_of k) c.args.rows.now c.loop-row.row-index c.row-item.result (HasKey c.args.keys.now) (HasKey c.loop-row.keys) (HasKey c.add_key.new.keys) c.loop-row-test.true c.row-item.is c.loop-row.invariant
    (c.in_ok-add_key.ensures)

pub returns : goal.returns
returns g c = keys_said c.args.rows.now (HasKey c.args.keys.now) (HasKey c.loop-row.keys)
    (before_last (λ (r : Row) (k : Key). r ≡ active_of k) c.args.rows.now c.loop-row.row-index (HasKey c.args.keys.now) (HasKey c.loop-row.keys) c.loop-row-test.false c.loop-row.invariant)
