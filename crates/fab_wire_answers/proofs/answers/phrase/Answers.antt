use Rattle.std.proofs.Common.{rules}
use Rattle.fab_wire_answers.specs.Messages.{phrase_of}
use Rattle.fab_wire_answers.proofs.answers.phrase.Goals as goal

pub returns-in-Some : goal.returns-in-Some
unfolding phrase_of
returns-in-Some c = search rules

pub returns-in-None : goal.returns-in-None
unfolding phrase_of
returns-in-None c = search rules
