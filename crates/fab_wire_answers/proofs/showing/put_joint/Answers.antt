use Rattle.fab_wire_answers.proofs.showing.put_joint.Goals as goal

pub returns-in-Default : goal.returns-in-Default
returns-in-Default g c = rw c.in-Default.is c.put-in-Default.ensures.text
