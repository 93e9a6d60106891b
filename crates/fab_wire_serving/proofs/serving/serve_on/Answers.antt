use Rattle.fab_wire_serving.proofs.serving.serve_on.Goals as goal

pub returns-in-Some-clause-turns : goal.returns-in-Some-clause-turns
returns-in-Some-clause-turns g c =
    rw (c.room_for.ensures.clock, c.room_for.ensures.most, c.room_for.ensures.log, c.turns_of-most.ensures) at c.serve_room.ensures.turns

pub returns-in-None-clause-turns : goal.returns-in-None-clause-turns
returns-in-None-clause-turns g c =
    rw (c.room_for.ensures.clock, c.room_for.ensures.most, c.room_for.ensures.log) at c.serve_alone.ensures.turns
