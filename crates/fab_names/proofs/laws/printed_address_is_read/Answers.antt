use Rattle.fab_names.proofs.Printed.{printed_address}
use Rattle.fab_names.proofs.laws.printed_address_is_read.Goals as goal

pub returns : goal.returns
returns c = printed_address
