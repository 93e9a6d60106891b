use Rattle.std.proofs.Common.{None, Some}
use Rattle.fab_reach_moves.proofs.HeadsAfter.{head_said}
use Rattle.fab_reach_moves.proofs.heads.said_head.Goals as goal

pub returns-in-Some : goal.returns-in-Some
returns-in-Some g c rows s = head_said rows c.args.side.now.heads s.heads c.args.name.now (Some c.in-Some.exposed.now) c.in-Some.ensures.value

pub returns-in-None : goal.returns-in-None
returns-in-None g c rows s = head_said rows c.args.side.now.heads s.heads c.args.name.now None c.in-None.ensures.value
