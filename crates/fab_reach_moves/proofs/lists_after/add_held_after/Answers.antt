use Rattle.fab_reach_books.specs.Inner.Sets.{HasPortIn}
use Rattle.fab_reach_index.specs.Inner.Holding.{HoldsIn}
use Rattle.fab_reach_moves.proofs.ListsAfter.{held_adds}
use Rattle.fab_reach_moves.proofs.lists_after.add_held_after.Goals as goal

pub returns : goal.returns
returns g c w v are t =
    let h = c.args.holder.now in
    held_adds w v t.gone t.come t.diff h (HoldsIn c.args.index.now.held h) (HoldsIn c.args.told.now.come.held h) (HasPortIn c.args.ports.now) (HasPortIn c.add_held_but.new.ports) (HasPortIn c.add_held.new.ports)
    (λ p. are.held h p) (λ p. t.new.held h p) (c.in_ok-add_held_but.ensures t.gone t.left) c.in_ok-add_held.ensures
