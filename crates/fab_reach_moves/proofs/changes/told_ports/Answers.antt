use Rattle.std.proofs.Common.{subst, List}
use Rattle.fab_reach_base.specs.Views.{seen}
use Rattle.fab_reach_books.specs.Inner.Sets.{HasPortIn}
use Rattle.fab_reach_base.specs.Adding.{Adds}
use Rattle.fab_reach_books.specs.declared.row.Row.{Row}
use Rattle.fab_reach_moves.specs.Inner.Changing.{SaysPortAmong}
use Rattle.fab_reach_moves.proofs.Changed.{moved_are}
use Rattle.fab_reach_moves.proofs.changes.told_ports.Goals as goal

pub returns : goal.returns
returns g c v sv d = moved_are (seen c.args.before.now) v c.args.diff.now.gone.items c.args.diff.now.come.items d c.requires sv c.new-ports.result c.add_all_said.new.ports c.add_all_said-2.new.ports c.add_all_rezoned.new.ports c.new-ports.ensures.empty
    (subst (λ (xs : List Row). Adds (SaysPortAmong xs) (HasPortIn c.new-ports.result) (HasPortIn c.add_all_said.new.ports)) c.as_slice.ensures.value c.in_ok-add_all_said.ensures)
    (subst (λ (xs : List Row). Adds (SaysPortAmong xs) (HasPortIn c.add_all_said.new.ports) (HasPortIn c.add_all_said-2.new.ports)) c.as_slice-2.ensures.value c.in_ok-add_all_said-2.ensures)
    (c.in_ok-add_all_rezoned.ensures v d)
