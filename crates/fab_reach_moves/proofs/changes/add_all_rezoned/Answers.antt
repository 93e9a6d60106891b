use Rattle.fab_reach_base.specs.Views.{seen}
use Rattle.fab_reach_books.specs.Inner.Sets.{HasPortIn}
use Rattle.fab_reach_moves.proofs.Changed.{rezoned}
use Rattle.fab_reach_moves.proofs.changes.add_all_rezoned.Goals as goal

pub returns : goal.returns
returns g c v d =
    let gone = c.args.diff.now.gone.items in
    let come = c.args.diff.now.come.items in
    let a = c.in_ok-active.ensures.gone in
    let b = c.in_ok-active.ensures.come in
    rezoned (seen c.args.before.now) v gone come c.in_ok-active.active.gone c.in_ok-active.active.come (HasPortIn c.args.ports.now) (HasPortIn c.add_changed.new.ports) (HasPortIn c.add_changed-2.new.ports) a b (c.in_ok-add_changed.ensures v gone come d a b) (c.in_ok-add_changed-2.ensures v gone come d a b)
