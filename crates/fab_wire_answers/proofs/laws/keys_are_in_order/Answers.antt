use Rattle.fab_wire_answers.proofs.InOrder.{body_in_order}
use Rattle.fab_wire_answers.proofs.laws.keys_are_in_order.Goals as goal

pub returns : goal.returns
returns g c = body_in_order c.args.answer.now
