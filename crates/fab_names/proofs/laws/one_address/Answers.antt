use Rattle.fab_names.proofs.Unique as unique
use Rattle.fab_names.proofs.laws.one_address.Goals as goal

pub returns : goal.returns
returns c = unique.one_address
