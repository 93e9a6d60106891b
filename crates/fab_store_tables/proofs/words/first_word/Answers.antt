use Rattle.fab_store_tables.proofs.Cuts.{cut_at_space}
use Rattle.fab_store_tables.proofs.words.first_word.Goals as goal

pub returns : goal.returns
returns c = cut_at_space c.args.text.now c.split_once.result c.split_once.ensures.cases
