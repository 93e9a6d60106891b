use Rattle.std.proofs.Common.{rules}
use Rattle.fab_desk_commands.proofs.Moves.{turn_written}
use Rattle.fab_desk_commands.proofs.turns.turn_at.Goals as goal

pub returns : goal.returns
returns g c =
    turn_written c.args.plans.now (c.get_mut.follows.lender c.turn_plan.new.kept) c.args.name.now c.args.turn c.in-Some.kept.now c.turn_plan.new.kept ((c.get_mut.follows.holds c.turn_plan.new.kept).3 (search rules)).0 c.turn_plan.ensures c.in-Some.ensures.value
