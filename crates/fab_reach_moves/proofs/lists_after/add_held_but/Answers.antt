use Rattle.std.proofs.Common.{sym}
use Rattle.fab_reach_books.specs.Inner.Sets.{HasPortIn}
use Rattle.fab_reach_moves.proofs.ListsAfter.{held_unsaid, none_held}
use Rattle.fab_reach_moves.proofs.lists_after.add_held_but.Goals as goal

pub returns-in_ok-add_all_unless_said : goal.returns-in_ok-add_all_unless_said
returns-in_ok-add_all_unless_said g c rows s = held_unsaid rows c.args.held.now c.args.holder.now c.in-Some.these.now (HasPortIn c.args.ports.now) (HasPortIn c.add_all_unless_said.new.ports) (sym c.in-Some.ensures.value) (c.in_ok-add_all_unless_said.ensures rows s)

pub returns-in_default : goal.returns-in_default
returns-in_default g c rows s = none_held rows c.args.held.now c.args.holder.now (HasPortIn c.args.ports.now) (sym c.in_default.ensures.value)
