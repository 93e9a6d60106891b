use Rattle.fab_names.proofs.Printed.{printed_spells}
use Rattle.fab_names.proofs.laws.printed_wwn_is_read.Goals as goal

pub returns : goal.returns
returns c = printed_spells
