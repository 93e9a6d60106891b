use Rattle.std.proofs.Common.{refl}
use Rattle.fab_wire_answers.specs.Messages.{phrase_of}
use Rattle.fab_wire_answers.proofs.laws.phrases_are_standard.Goals as goal

pub returns : goal.returns
unfolding phrase_of
returns c = (refl, (refl, (refl, (refl, (refl, (refl, (refl, (refl, (refl, (refl, tt))))))))))
