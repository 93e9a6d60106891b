use Rattle.fab_names.proofs.Printed.{member_again}
use Rattle.fab_names.proofs.laws.printed_member_is_read.Goals as goal

pub returns : goal.returns
returns c = member_again
