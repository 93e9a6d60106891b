use Rattle.fab_wire_base.proofs.KnownLemmas.{asked_known}
use Rattle.fab_wire_base.proofs.laws.asked_token_is_known.Goals as goal

pub returns : goal.returns
returns c = asked_known
