use Rattle.fab_program_words.proofs.Parts.{part_some, part_none}
use Rattle.fab_program_words.proofs.lists.cut_part.Goals as goal

pub returns-clause-some : goal.returns-clause-some
returns-clause-some c = part_some c.args.text.now c.split_once.result c.split_once.ensures.cases

pub returns-clause-none : goal.returns-clause-none
returns-clause-none c = part_none c.args.text.now c.split_once.result c.split_once.ensures.cases
