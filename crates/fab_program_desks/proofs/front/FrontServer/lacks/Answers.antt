use Rattle.fab_program_desks.proofs.front.FrontServer.lacks.Goals as goal

pub returns-clause-whole : goal.returns-clause-whole
returns-clause-whole g c = c.lacks_for.ensures.whole

pub returns-clause-lacking : goal.returns-clause-lacking
returns-clause-lacking g c = c.lacks_for.ensures.lacks
