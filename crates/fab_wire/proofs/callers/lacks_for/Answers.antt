use Rattle.fab_wire.proofs.callers.lacks_for.Goals as goal

pub returns-clause-whole : goal.returns-clause-whole
returns-clause-whole g c = rw c.of.ensures at c.lacks.ensures.whole

pub returns-clause-lacks : goal.returns-clause-lacks
returns-clause-lacks g c = rw c.of.ensures at c.lacks.ensures.lacks
